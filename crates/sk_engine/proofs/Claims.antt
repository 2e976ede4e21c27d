-- No leadership is told to two words.
use Rattle.sk_engine.proofs.Names.{◌≡◌, ℕ, ◌<◌, ◌≤◌, Bool, true, false, cond, List, [], ◌∷◌, Option, Some, None, inl}
use Rattle.sk_engine.proofs.Names.{inr, refl, sym, ◌∙◌, ap, subst, arith, LeadAnswer, Held, Mine, Another, Absent}
use Rattle.sk_engine.proofs.Names.{Claimed, Waits, Breach, claim_told, lead_told, held_of, may_put, may_fence, may_cut}
use Rattle.sk_engine.proofs.Names.{with_entry, without_from, without_to, Has, World, Move, Leads, Ends, Fences, Tries}
use Rattle.sk_engine.proofs.Names.{Cuts, Begins, ClaimHappens, ClaimMove, ClaimRuns, LeadershipIsOne, LeadTry, Worded}
use Rattle.sk_engine.proofs.Names.{is_lead, lead_answer, new_worded, Claims, Goes, none-some, subst₃, after_move}
use Rattle.sk_engine.specs.Engine.{EngineView}
use Rattle.sk_engine.specs.declared.answer.LeadAnswer.TheVariants as lead
use Rattle.sk_engine.proofs.Tests.{mine}

-- it was put by this word
abbrev HasLed : List LeadTry → List ℕ → ℕ → Type 0
HasLed tries word r = Has (record { word = word; answer = lead.Done r }) tries

record AreClaimed (leader : Option ℕ) (newest : ℕ) (word : List ℕ) (tries : List LeadTry) : Type 0 where
  pub led : (r : ℕ) → leader ≡ Some r → HasLed tries word r
  pub told : (mine : List ℕ) (answer : LeadAnswer) (r : ℕ) → Has (record { word = mine; answer = answer }) tries
      → lead_told answer ≡ Claimed r → HasLed tries mine r
  pub low : (mine : List ℕ) (r : ℕ) → HasLed tries mine r → r ≤ newest
  pub one : (mine other : List ℕ) (r : ℕ) → HasLed tries mine r → HasLed tries other r → mine ≡ other

abbrev AreSeen : World → List ℕ → List LeadTry → Type 0
AreSeen w word tries = AreClaimed w.engine.leader w.engine.newest word tries

abbrev AreSo : Worded → Type 0
AreSo c = AreSeen c.world c.word c.tries

-- ---- a leadership begins

module _ (leader : Option ℕ) (newest : ℕ) (word : List ℕ) (tries : List LeadTry)
    (so : AreClaimed leader newest word tries) where
  begun : (mine : List ℕ) (r : ℕ) → newest < r
      → AreClaimed (Some r) r mine (record { word = mine; answer = lead.Done r } ∷ tries)
  begun mine r lt = record {
    led = λ s e. let is : r ≡ s = cc in inl (ap (λ (n : ℕ). record { word = mine; answer = lead.Done n }) (sym is));
    told = λ u a s h e. elim h as (λ _. HasLed (record { word = mine; answer = lead.Done r } ∷ tries) u s) [
      | inl is ↦
          let it : lead_told (lead.Done r) ≡ Claimed s = subst (λ (x : LeadAnswer). lead_told x ≡ Claimed s)
          (ap (λ (t : LeadTry). t.answer) is) e in
          let same : s ≡ r = cc in
          inl (ap (λ (x : List ℕ). record { word = x; answer = lead.Done s }) (ap (λ (t : LeadTry). t.word) is)
          ∙ ap (λ (n : ℕ). record { word = mine; answer = lead.Done n }) same)
      | inr old ↦ inr (so.told u a s old e)
    ];
    low = λ u s h. elim h as (λ _. s ≤ r) [
      | inl is ↦ let same : s ≡ r = cc (ap (λ (t : LeadTry). t.answer) is) in omega arith
      | inr old ↦ let low = so.low u s old in omega arith
    ];
    one = λ u v s h k. elim h as (λ _. u ≡ v) [
      | inl is ↦ elim k as (λ _. u ≡ v) [
        | inl it ↦ ap (λ (t : LeadTry). t.word) is ∙ sym (ap (λ (t : LeadTry). t.word) it)
        | inr old ↦
            let same : s ≡ r = cc (ap (λ (t : LeadTry). t.answer) is) in
            let low = so.low v s old in
            absurd (omega arith)
      ]
      | inr old ↦ elim k as (λ _. u ≡ v) [
        | inl it ↦
            let same : s ≡ r = cc (ap (λ (t : LeadTry). t.answer) it) in
            let low = so.low u s old in
            absurd (omega arith)
        | inr older ↦ so.one u v s old older
      ]
    ];
  }

  -- ---- there is a leader

  claimed_mine : (seen r : ℕ) (held : Held) → claim_told seen held ≡ Claimed r → (held ≡ Mine) × (seen ≡ r)
  claimed_mine seen r Mine e = (refl, cc)
  claimed_mine seen r Another e = absurd (let no : Waits ≡ Claimed r = e in cc)
  claimed_mine seen r Absent e = absurd (let no : Breach ≡ Claimed r = e in cc)

  abbrev not_put : List ℕ → ℕ → LeadTry
  not_put mine one = record {
    word = mine;
    answer = lead.Not
        (record { leadership = one; held = held_of mine (Some word) });
  }

  led_before : (own u : List ℕ) (one r : ℕ) → HasLed (not_put own one ∷ tries) u r → HasLed tries u r
  led_before own u one r h = elim h as (λ _. HasLed tries u r) [
    | inl is ↦ cc (ap (λ (t : LeadTry). t.answer) is)
    | inr old ↦ old
  ]

  same_word : (own : List ℕ) → held_of own (Some word) ≡ Mine → word ≡ own
  same_word own e = let is : Some word ≡ Some own = mine own (Some word) e in cc

  waited : (own : List ℕ) (one : ℕ) → leader ≡ Some one → AreClaimed leader newest word (not_put own one ∷ tries)
  waited own one leads = record {
    led = λ r e. inr (so.led r e);
    told = λ u a r h e. elim h as (λ _. HasLed (not_put own one ∷ tries) u r) [
      | inl is ↦
          let it = claimed_mine one r (held_of own (Some word))
          (subst (λ (x : LeadAnswer). lead_told x ≡ Claimed r) (ap (λ (t : LeadTry). t.answer) is) e) in
          let has : HasLed tries word r = so.led r (leads ∙ ap (λ (n : ℕ). Some n) it.1) in
          let u_is : word ≡ u = same_word own it.0 ∙ sym (ap (λ (t : LeadTry). t.word) is) in
          inr (subst (λ (x : List ℕ). HasLed tries x r) u_is has)
      | inr old ↦ inr (so.told u a r old e)
    ];
    low = λ u r h. so.low u r (led_before own u one r h);
    one = λ u v r h k. so.one u v r (led_before own u one r h) (led_before own v one r k);
  }

-- ---- anything else happens

-- no leadership begins
record Keeps (a b : EngineView) : Type 0 where
  pub leader : (r : ℕ) → b.leader ≡ Some r → a.leader ≡ Some r
  pub newest : b.newest ≡ a.newest

kept_by : (a b : EngineView) (t : Bool) → b.leader ≡ a.leader → b.newest ≡ a.newest → Keeps a (cond t b a)
kept_by a b true same newest = record { leader = λ r e. sym same ∙ e; newest = newest }
kept_by a b false same newest = record { leader = λ r e. e; newest = refl }

keeps : (w : World) (c : Move) → is_lead c ≡ false → Keeps w.engine (after_move w c).engine
keeps w (Leads r) began = absurd (let is : true ≡ false = began in cc)
keeps w Ends other = record { leader = λ r e. absurd (none-some r e); newest = refl }
keeps w (Fences f) other = kept_by w.engine (record w.engine { fence = f.leadership; log = without_from f.gap w.engine.log })
    (may_fence w.engine f) refl refl
keeps w (Tries b v) other = kept_by w.engine (record w.engine { log = with_entry b.number v w.engine.log }) (may_put w.engine b) refl refl
keeps w (Cuts r g last) other = kept_by w.engine (record w.engine { log = without_to last w.engine.log; snap = last })
    (may_cut w.engine r last) refl refl
keeps w c other = record { leader = λ r e. e; newest = refl }

-- ---- over runs

leads_by : (c d : Worded) (o : Option ℕ) (word : List ℕ) (r : ℕ) → AreSo c → c.world.engine.leader ≡ o
    → Begins o word r c d.world d.word
    → d.tries ≡ record { word = word; answer = lead_answer word r c.word o } ∷ c.tries → AreSo d
leads_by c d None word r so e begins tries =
    subst₃ AreSeen (sym begins.0.1) (sym begins.1) (sym tries)
    (begun c.world.engine.leader c.world.engine.newest c.word c.tries so word r begins.0.0.1)
leads_by c d (Some one) word r so e begins tries =
    subst₃ AreSeen (sym begins.0) (sym begins.1) (sym tries)
    (waited c.world.engine.leader c.world.engine.newest c.word c.tries so word one e)

claim_step : (c : Worded) (m : ClaimMove) (d : Worded) → AreSo c → ClaimHappens c m d → AreSo d
claim_step c (Claims word r) d so h = leads_by c d c.world.engine.leader word r so refl h.0 h.1
claim_step c (Goes move) d so h =
    let keeps = keeps c.world move h.0 in
    let at : AreSeen (after_move c.world move) c.word c.tries = record {
      led = λ r e. so.led r (keeps.leader r e);
      told = so.told;
      low = λ u r has. let low = so.low u r has in let same = keeps.newest in omega arith;
      one = so.one;
    } in
    subst₃ AreSeen (sym h.1.1) (sym h.2) (sym h.3) at

claims_run : (ms : List ClaimMove) (c d : Worded) → ClaimRuns c ms d → AreSo c → AreSo d
claims_run [] c d r so = subst (λ (x : Worded). AreSo x) r so
claims_run (m ∷ ms) c d r so = claims_run ms r.0 d r.2 (claim_step c m r.0 so r.1)

none_yet : AreSo new_worded
none_yet = record {
  led = λ r e. absurd (none-some r e);
  told = λ u a r h e. absurd h;
  low = λ u r h. absurd h;
  one = λ u v r h k. absurd h;
}

pub leadership_is_one : LeadershipIsOne
leadership_is_one moves c r word other runs mine theirs =
    let so = claims_run moves new_worded c runs none_yet in
    so.one word other r (so.told word mine.0 r mine.1 mine.2) (so.told other theirs.0 r theirs.1 theirs.2)
