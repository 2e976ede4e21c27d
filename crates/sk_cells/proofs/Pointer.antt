-- A struct of one raw pointer: its word in the machine, and that nothing but the word is owned of it. Assumes `Logic`.
use Rattle.sk_cells.proofs.Names.{List, [], ◌∷◌, refl, lit<, T, Ura, ty_ptr, Val, vstruct, vcons, vnil, has_ty, WT}
use Rattle.sk_cells.proofs.Names.{Logic, Item, Goal, Step, ‵, RattleType, Is, layout, Ptr, RawPtr, block_ptr}
use Rattle.sk_cells.proofs.Names.{null_ptr, ptr_val, rawptr_pure, owned, Shape, Struct, Struct-Makes}

abbrev pub word : Ptr → Val
word p = vstruct (vcons (ptr_val p) vnil)

abbrev shape : Shape
shape = record { name = []; args = []; types = []; fields = RawPtr ∷ [] }

abbrev pub Pointer : RattleType
Pointer = Struct shape

-- both the pointer and the word are of their types
pub ptr_fits : (p : Ptr) → T (has_ty ty_ptr (ptr_val p)) × WT (ptr_val p)
ptr_fits (block_ptr b o) = (tt, tt)
ptr_fits null_ptr = (tt, record { fits = lit< tt })

pub word_fits : (p : Ptr) → T (has_ty (layout Pointer) (word p)) × WT (word p)
word_fits (block_ptr b o) = (tt, (tt, tt))
word_fits null_ptr = (tt, (record { fits = lit< tt }, tt))

module _ {M : Type 1} {𝓤 : Ura M} {𝓛 : Logic 𝓤} {K : Type 0} {Γ : List (Item 𝓤)} {G : Goal 𝓤 𝓛.H} where
  -- a proof's step: the struct of this pointer, from nothing
  pub pointed : K → (p : Ptr) → Step K 𝓛 (‵ (Pointer.own_val (p, tt) (word p ∷ [])) ∷ Γ) G Γ G
  pointed t p = owned t Pointer (Is Pointer) (Struct-Makes 𝓛 shape (rawptr_pure, tt)) (p, tt) (word p ∷ []) ((ptr_val p ∷ [], tt), (refl, (refl, tt)))
