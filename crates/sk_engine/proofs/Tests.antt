-- What tests of the engine say, and what is whole.
use Rattle.sk_engine.proofs.Names.{◌≡◌, ℕ, ◌<◌, ◌≤◌, Bool, true, false, cond, List, Option, Some, None, refl, sym, ap}
use Rattle.sk_engine.proofs.Names.{nat_le, is_none, bytes_eq, eqb-true, eqb-false, le-leb, bytes_eq-Decides, Held}
use Rattle.sk_engine.proofs.Names.{Absent, Mine, Another, Synced, Lost, Unknowable, Serves, Over, Breach, leads}
use Rattle.sk_engine.proofs.Names.{held_of, refused_told, unfenced_told, World, whole, cond-true, cond-false, lt-leb}

-- the leader is of this leadership; or it isn't
pub led : (leadership : ℕ) (leader : Option ℕ) → leads leadership leader ≡ true → leader ≡ Some leadership
led leadership None e = absurd (let no : false ≡ true = e in cc)
led leadership (Some one) e = ap (λ (n : ℕ). Some n) (eqb-true one leadership e)

pub unled : (leadership : ℕ) (leader : Option ℕ) → leads leadership leader ≡ false → leader ≡ Some leadership → ⊥
unled leadership None e is = cc
unled leadership (Some one) e is = let same : one ≡ leadership = cc in eqb-false one leadership e same

pub none : (o : Option (List ℕ)) → is_none o ≡ true → o ≡ None
none None e = refl
none (Some v) e = absurd (let no : false ≡ true = e in cc)

-- ---- what stands under a number, beside what was to be put there

mine_is : (mine there : List ℕ) (t : Bool) → bytes_eq mine there ≡ t → cond t Mine Another ≡ Mine → mine ≡ there
mine_is mine there true e is = (bytes_eq-Decides mine there).0 e
mine_is mine there false e is = cc

pub mine : (value : List ℕ) (there : Option (List ℕ)) → held_of value there ≡ Mine → there ≡ Some value
mine value None is = cc
mine value (Some there) is = ap (λ (v : List ℕ). Some v) (sym (mine_is value there (bytes_eq value there) refl is))

pub is_mine : (value : List ℕ) → held_of value (Some value) ≡ Mine
is_mine value = ap (λ (t : Bool). cond t Mine Another) ((bytes_eq-Decides value value).1 refl)

-- ---- what is told

pub told_synced : (number : ℕ) (held : Held) (led cut : Bool) → refused_told number held led cut ≡ Synced number → held ≡ Mine
told_synced number Mine led cut e = refl
told_synced number Absent true cut e = cc
told_synced number Absent false true e = cc
told_synced number Absent false false e = cc
told_synced number Another true cut e = cc
told_synced number Another false true e = cc
told_synced number Another false false e = cc

-- a batch that is lost: its leadership is over, its own bytes don't stand there, and the log is not cut so far
pub record IsLost (held : Held) (led cut : Bool) : Type 0 where
  pub ended : led ≡ false
  pub other : held ≡ Mine → ⊥
  pub uncut : cut ≡ false

pub told_lost : (number : ℕ) (held : Held) (led cut : Bool) → refused_told number held led cut ≡ Lost number → IsLost held led cut
told_lost number Mine led cut e = absurd (let no : Synced number ≡ Lost number = e in cc)
told_lost number Absent true cut e = absurd (let no : Breach ≡ Lost number = e in cc)
told_lost number Absent false true e = absurd (let no : Unknowable number ≡ Lost number = e in cc)
told_lost number Absent false false e = record { ended = refl; other = λ is. cc; uncut = refl }
told_lost number Another true cut e = absurd (let no : Breach ≡ Lost number = e in cc)
told_lost number Another false true e = absurd (let no : Unknowable number ≡ Lost number = e in cc)
told_lost number Another false false e = record { ended = refl; other = λ is. cc; uncut = refl }

pub told_serves : (led fenced : Bool) → unfenced_told led fenced ≡ Serves → (led ≡ true) × (fenced ≡ true)
told_serves false fenced e = absurd (let no : Over ≡ Serves = e in cc)
told_serves true true e = (refl, refl)
told_serves true false e = absurd (let no : Breach ≡ Serves = e in cc)

-- ---- what is whole

pub whole_behind : (w : World) (i : ℕ) → w.engine.snap < i → whole w i ≡ w.engine.log i
whole_behind w i lt = cond-false (nat_le i w.engine.snap) (w.kept i) (w.engine.log i) (lt-leb i w.engine.snap lt)

pub whole_cut : (w : World) (i : ℕ) → i ≤ w.engine.snap → whole w i ≡ w.kept i
whole_cut w i le = cond-true (nat_le i w.engine.snap) (w.kept i) (w.engine.log i) (le-leb i w.engine.snap le)
