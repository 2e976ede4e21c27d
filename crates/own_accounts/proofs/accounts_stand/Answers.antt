-- The law at the step function of accounts.
use Rattle.own_accounts.proofs.Names.{runs_whole, accounts}
use Rattle.own_accounts.proofs.accounts_stand.Goals as goal

pub returns : goal.returns
returns c = runs_whole accounts
