-- Each frame is to be written just behind those before it.
use Rattle.sk_crashed.proofs.Names.{◌≡◌, ◌==◌, ℕ, ◌+◌, ◌-◌, ◌^◌, Bool, true, false, cond, List, [], ◌∷◌, ◌++◌, length}
use Rattle.sk_crashed.proofs.Names.{Some, None, inl, inr, if◌then◌else◌, refl, sym, ap, subst, ◌∙◌, arith, nat_le}
use Rattle.sk_crashed.proofs.Names.{true≢false, eq-eqb, eqb-true, log, next_payload, next_segment, PlacesView, payload}
use Rattle.sk_crashed.proofs.Names.{Next, Call, Connects, HangsUp, Frees, Hears, Carries, Declines, Tells, Drops}
use Rattle.sk_crashed.proofs.Names.{Refuses, Hands, Draws, Sends, Turns, Learns, Cuts, Stops, Decides, Rests, Does}
use Rattle.sk_crashed.proofs.Names.{StoreView, after_any, FramesAreBehind, IsFront, PlacesAreBehind, begun, cut_at}
use Rattle.sk_crashed.proofs.Names.{now_in, turned, with_frame, written_by, Written, length_log}
use Rattle.sk_crashed.proofs.Disks.{is_begun}
use Rattle.sk_crashed.proofs.Done.{all_within, next_frame}
use Rattle.sk_crashed.proofs.Tried.{end_now}

pub record IsPlaced (w : Written) (places : PlacesView) : Type 0 where
  pub segment : places.segment ≡ w.segment
  pub offset : places.offset ≡ length (log w.segment w.first w.payloads)

-- ---- each call

next_is : (p : PlacesView) (segment : ℕ) → next_segment p ≡ Some segment → segment ≡ p.segment + 1
next_is p segment is = next_at (nat_le (2 ^ 28) (p.segment + 1)) is
  where
    next_at : (t : Bool) → cond t None (Some (p.segment + 1)) ≡ Some segment → segment ≡ p.segment + 1
    next_at true is = cc
    next_at false is = cc

same_places : (w : Written) (p q : PlacesView) → q ≡ p → IsPlaced w p → IsPlaced w q
same_places w p q is so = subst (IsPlaced w) (sym is) so

placed_by : (m : StoreView) (c : Call) (s : StoreView) (w : Written) → Does m c s → IsPlaced w m.places → IsPlaced (written_by c w) s.places
placed_by m (Connects t) s w (channel, past, most, connects, is) so = same_places w m.places s.places is.2 so
placed_by m (HangsUp t) s w (hangs, is) so = same_places w m.places s.places is.2 so
placed_by m (Frees t) s w (none, frees, is) so = same_places w m.places s.places is.2 so
placed_by m (Hears t bytes) s w (passes, is) so = same_places w m.places s.places is.2 so
placed_by m (Carries t bytes ask asked answer rests) s w (none, from, asks, done, is) so = same_places w m.places s.places is.1 so
placed_by m (Declines t bytes ask ticket why) s w (asks, leaves, is) so = same_places w m.places s.places is.1 so
placed_by m (Tells t ticket answer) s w (may, passes, out, queue, begun, is) so = same_places w m.places s.places is.1 so
placed_by m (Drops t ticket answer) s w (gone, out, queue, begun, channels, places) so = same_places w m.places s.places places so
placed_by m (Refuses t ticket) s w (bound, passes, is) so = same_places w m.places s.places is.2 so
placed_by m (Hands t bytes) s w (passes, is) so = same_places w m.places s.places is.2 so
placed_by m Draws s w (room, draws, channels, places) so = same_places w m.places s.places places so
placed_by m (Sends sealed records) s w (room, filled, (none, draws, begun, framed), these, is) so =
    let p = payload records in
    let len : length (next_payload m.batched.queue) ≡ length p = ap (λ rs. length (payload rs)) (sym these) in
    let more = length_log w.segment w.first w.payloads p in
    let before = so.offset in
    subst (IsPlaced (with_frame records w)) (sym framed.3) (record { segment = so.segment; offset = omega (arith, before, len, more) })
placed_by m Turns s w (segment, more, is) so =
    let before = so.segment in
    let next = next_is m.places segment more in
    subst (λ (x : StoreView). IsPlaced (turned w) x.places) (sym is) (record { segment = omega (arith, before, next); offset = refl })
placed_by m (Learns frame stage) s w (stages, known, is) so = same_places w m.places s.places (ap (λ (x : StoreView). x.places) is) so
placed_by m (Cuts cut) s w (going, due, (segment, more, is)) so =
    let before = so.segment in
    let next = next_is m.places segment more in
    let len = length_log (w.segment + 1) cut.frame [] [] in
    subst (λ (x : StoreView). IsPlaced (cut_at cut.frame w) x.places) (sym is)
    (record { segment = omega (arith, before, next); offset = omega (arith, len) })
placed_by m Stops s w (going, due, is) so = same_places w m.places s.places (ap (λ (x : StoreView). x.places) is) so
placed_by m (Decides outcome) s w (decides, channels, places) so = same_places w m.places s.places places so
placed_by m Rests s w (still, keeps, is) so = same_places w m.places s.places is.1 so

now_push : (w : Written) (cs : List Call) (c : Call) → now_in w (cs ++ c ∷ []) ≡ written_by c (now_in w cs)
now_push w [] c = refl
now_push w (d ∷ cs) c = now_push (written_by d w) cs c

placed_first : (t : Bool) (next : Next) (places : PlacesView) → places.segment ≡ next.segment → places.offset ≡ next.offset
    → (t ≡ true → next.offset ≡ 0) → (t ≡ false → next.offset ≡ 24)
    → IsPlaced (if t then record { segment = next.segment; first = next.frame; head = 0; payloads = [] }
    else record { segment = next.segment; first = next.frame - 1; head = 1; payloads = [] ∷ [] }) places
placed_first true next places segment offset front head = record { segment = segment; offset = offset ∙ front refl }
placed_first false next places segment offset front head =
    let at = head refl in
    let len = length_log next.segment (next.frame - 1) [] [] in record { segment = segment; offset = omega (arith, offset, at, len) }

head_at : (next : Next) → IsFront next → (next.offset == 0) ≡ false → next.offset ≡ 24
head_at next (inl at) differs = absurd (true≢false (sym (eq-eqb next.offset 0 at) ∙ differs))
head_at next (inr behind) differs = behind.0

-- ---- after any calls

pub places_are_behind : PlacesAreBehind
places_are_behind limits next start cs s done front =
    let w = begun next in
    let first = placed_first (next.offset == 0) next done.first.places (ap (λ (p : PlacesView). p.segment) done.new.places)
    (ap (λ (p : PlacesView). p.offset) done.new.places) (eqb-true next.offset 0) (head_at next front) in
    let placed : IsPlaced (now_in w cs) s.places =
    after_any limits next start (λ ds m. IsPlaced (now_in w ds) m.places)
    (λ ds m c n had does so. subst (λ v. IsPlaced v n.places) (sym (now_push w ds c)) (placed_by m c n (now_in w ds) does so))
    [] cs done.first s (record { first = done.first; new = done.new; serves = refl }) done.serves first in
    let at = (is_begun next front).at in
    let end = end_now next.frame cs w [] (all_within limits next start cs s done) (omega (arith, at)) in
    let number = next_frame limits next start cs s done in
    record { segment = placed.segment; offset = placed.offset; number = omega (arith, end, number) }

pub frames_are_behind : FramesAreBehind
frames_are_behind limits next start cs s t sealed records done front (room, filled, (none, draws, begun, framed), these, is) =
    let so = places_are_behind limits next start cs s done front in
    framed.1 ∙ (λ i. record {
      frame = so.number i;
      segment = so.segment i;
      offset = so.offset i;
      len = 24 + length (payload (sym these i));
    })
