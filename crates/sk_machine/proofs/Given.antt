-- What holds of a result where other things do.
use Rattle.sk_machine.proofs.Names.{◌≡◌, true, false, Result, Ok, Err, sym, is_err, true≢false, IfOk, OnOk, OnErr}

pub if_ok : {A F : Type 0} {P Q R : A → Type 0} (r : Result A F) → IfOk r P → IfOk r Q → ((x : A) → P x → Q x → R x) → IfOk r R
if_ok (Ok x) p q f = f x p q
if_ok (Err why) p q f = tt

pub on_ok : {A F P Q R : Type 0} (r : Result A F) → OnOk r P → OnOk r Q → (P → Q → R) → OnOk r R
on_ok (Ok x) p q f = f p q
on_ok (Err why) p q f = tt

pub on_err : {A F P Q R : Type 0} (r : Result A F) → OnErr r P → OnErr r Q → (P → Q → R) → OnErr r R
on_err (Ok x) p q f = tt
on_err (Err why) p q f = f p q

pub from_ok : {A F P : Type 0} (r : Result A F) → false ≡ is_err r → OnOk r P → P
from_ok (Ok x) is p = p
from_ok (Err why) is p = absurd (true≢false (sym is))

pub from_err : {A F P : Type 0} (r : Result A F) → true ≡ is_err r → OnErr r P → P
from_err (Ok x) is p = absurd (true≢false is)
from_err (Err why) is p = p

pub then_ok : {A F P Q : Type 0} (r : Result A F) → OnOk r P → (P → Q) → OnOk r Q
then_ok (Ok x) p f = f p
then_ok (Err why) p f = tt

pub then_err : {A F P Q : Type 0} (r : Result A F) → OnErr r P → (P → Q) → OnErr r Q
then_err (Ok x) p f = tt
then_err (Err why) p f = f p

pub for_err : {A F P : Type 0} (r : Result A F) → P → OnErr r P
for_err (Ok x) p = tt
for_err (Err why) p = p
