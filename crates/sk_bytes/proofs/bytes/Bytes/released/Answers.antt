-- What is taken out of a channel changes no number, and was told before.
use Rattle.sk_bytes.proofs.Names.{◌≡◌, ℕ, false, List, [], ◌∷◌, Option, None, sym, ap, subst, ◌==◌, IfSome, said_at}
use Rattle.sk_bytes.proofs.Names.{Numbered, Parts, whole_told, IsTold}
use Rattle.sk_bytes.proofs.bytes.Bytes.released.Goals as goal

told_out : {V O : Type 0} (es : Numbered) (m b : Parts ℕ V O) (undone : List ℕ) (t : ℕ) (o : Option O) → IsTold es m undone → IfSome o (λ output. said_at m.said t ≡ ((t, output), []) ∷ said_at b.said t)
    → ((u : ℕ) → (t == u) ≡ false → said_at b.said u ≡ said_at m.said u) → (o ≡ None → b ≡ m) → b ≡ record m { said = b.said } → IsTold es b undone
told_out {V} {O} es m b undone t o told first others none same =
    subst (λ (p : Parts ℕ V O). IsTold es p undone) (sym same) (record {
      fits = record {
        two_way = told.fits.two_way;
        rests = told.fits.rests;
        used = told.fits.used;
        whole = whole_told m told.fits.whole t o b.said first others (λ is. ap (λ (p : Parts ℕ V O). p.said) (none is));
      };
      held = told.held;
      needed = told.needed;
    })

pub invariant_of-self : goal.invariant_of-self
invariant_of-self g c = (
  told_out c.self.inside.keys.index c.self.inside.kernel c.released.new.self c.self.inside.keys.loose.items c.args.channel c.released.result c.self.invariant.0 c.released.ensures.first c.released.ensures.others c.released.ensures.none c.released.ensures.same,
  c.self.invariant.1,
  c.self.invariant.2,
  c.self.invariant.3,
  c.self.invariant.4,
)
