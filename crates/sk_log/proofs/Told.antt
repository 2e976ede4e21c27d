-- What the front of some bytes is, by what was compared of it.
use Rattle.sk_log.proofs.Names.{◌≡◌, ℕ, ◌+◌, ◌<◌, ◌≤◌, ◌^◌, List, [], ◌++◌, length, take, drop, sum, refl, sym, ◌∙◌, ap}
use Rattle.sk_log.proofs.Names.{subst, arith, length-drop, length-take, length-take-le, append-nil, head_of, head}
use Rattle.sk_log.proofs.Names.{frame, IsFrame, Ends, BeginsAs, BeginsFrame, IsShort, IsOther}
use Rattle.sk_log.proofs.Read.{frame_length, parts_there, payload_there, frame_there}

-- What the digits of a head say of the payload.
abbrev pub SaidLen : List ℕ → ℕ → Type 0
SaidLen bytes said = (segment number len total : ℕ) → len < 2 ^ 28 → bytes ≡ head_of segment number len total → said ≡ len

abbrev pub SaidTotal : List ℕ → ℕ → Type 0
SaidTotal bytes said = (segment number len total : ℕ) → total < 2 ^ 42 → bytes ≡ head_of segment number len total → said ≡ total

module _ (segment number len total : ℕ) (bytes : List ℕ) (long : 24 ≤ length bytes) (says_len : SaidLen (take 24 bytes) len) (says_total : SaidTotal (take 24 bytes) total) where
  first : (later p more : List ℕ) → bytes ++ later ≡ frame segment number p ++ more → take 24 bytes ≡ head segment number p
  first later p more is = (parts_there segment number bytes later p more long is).0

  is_len : (later p more : List ℕ) → IsFrame segment number p → bytes ++ later ≡ frame segment number p ++ more → len ≡ length p
  is_len later p more made is = says_len segment number (length p) (sum p) made.short (first later p more is)

  is_total : (later p more : List ℕ) → IsFrame segment number p → bytes ++ later ≡ frame segment number p ++ more → total ≡ sum p
  is_total later p more made is = says_total segment number (length p) (sum p) made.light (first later p more is)

  pub other_head : (take 24 bytes ≡ head_of segment number len total → ⊥) → IsOther segment number bytes
  other_head differ later p more made is =
      let a : length p ≡ len = sym (is_len later p more made is) in
      let b : sum p ≡ total = sym (is_total later p more made is) in
      differ (first later p more is ∙ (λ i. head_of segment number (a i) (b i)))

  pub short_payload : take 24 bytes ≡ head_of segment number len total → length bytes < 24 + len → IsShort segment number bytes (24 + len)
  short_payload same few = record {
    lacking = few;
    wanted = λ p later more made is. omega (arith, is_len later p more made is);
    no_head = λ none. absurd (omega (arith, none, long));
    head = λ _. (len, total, refl, same);
  }

  pub other_sum : 24 + len ≤ length bytes → (sum (take len (drop 24 bytes)) ≡ total → ⊥) → IsOther segment number bytes
  other_sum enough differ later p more made is =
      let parts = parts_there segment number bytes later p more long is in
      let same = is_len later p more made is in
      let body : take (length p) (drop 24 bytes) ≡ p = payload_there (drop 24 bytes) later p more (omega (arith, same, enough, length-drop 24 bytes)) parts.1 in
      differ (ap (λ n. sum (take n (drop 24 bytes))) same ∙ ap sum body ∙ sym (is_total later p more made is))

  pub whole : segment < 2 ^ 28 → number < 2 ^ 56 → len < 2 ^ 28 → total < 2 ^ 42 → take 24 bytes ≡ head_of segment number len total → 24 + len ≤ length bytes
      → sum (take len (drop 24 bytes)) ≡ total → BeginsFrame segment number bytes len
  whole low low' short light same enough adds =
      let body = take len (drop 24 bytes) in
      let is : length body ≡ len = length-take-le len (drop 24 bytes) (omega (arith, enough, length-drop 24 bytes)) in
      let a : len ≡ length body = sym is in
      let b : total ≡ sum body = sym adds in
      record {
        small = record { segment_small = low; number_small = low'; short = omega (arith, is, short); light = omega (arith, adds, light) };
        within = enough;
        begins = frame_there segment number len bytes (same ∙ (λ i. head_of segment number (a i) (b i)));
      }

-- No head of this segment stands here.
pub no_first : (segment number said_number len total : ℕ) (bytes : List ℕ) → 24 ≤ length bytes → SaidLen (take 24 bytes) len → SaidTotal (take 24 bytes) total
    → ((segment number len total : ℕ) → number < 2 ^ 56 → take 24 bytes ≡ head_of segment number len total → said_number ≡ number)
    → (take 24 bytes ≡ head_of segment said_number len total → ⊥) → Ends segment number bytes
no_first segment number said_number len total bytes long says_len says_total says_number differ p more made is =
    let there : take 24 bytes ≡ head segment number p = (parts_there segment number bytes [] p more long (append-nil bytes ∙ is)).0 in
    let a : number ≡ said_number = sym (says_number segment number (length p) (sum p) made.number_small there) in
    let b : length p ≡ len = sym (says_len segment number (length p) (sum p) made.short there) in
    let c : sum p ≡ total = sym (says_total segment number (length p) (sum p) made.light there) in
    differ (there ∙ (λ i. head_of segment (a i) (b i) (c i)))

-- Where no head of this segment stands at the front of some bytes, the log ends with all bytes that begin as these do.
pub no_first_as : (segment number said_number len total : ℕ) (bytes left : List ℕ) → BeginsAs left bytes → 24 ≤ length bytes → SaidLen (take 24 bytes) len → SaidTotal (take 24 bytes) total
    → ((segment number len total : ℕ) → number < 2 ^ 56 → take 24 bytes ≡ head_of segment number len total → said_number ≡ number)
    → (take 24 bytes ≡ head_of segment said_number len total → ⊥) → Ends segment number left
no_first_as segment number said_number len total bytes left same long says_len says_total says_number differ =
    no_first segment number said_number len total left (omega (arith, long, ap length same, length-take 24 left, length-take 24 bytes)) (subst (λ t. SaidLen t len) (sym same) says_len) (subst (λ t. SaidTotal t total) (sym same) says_total)
    (λ s n l t small is. says_number s n l t small (sym same ∙ is)) (λ is. differ (sym same ∙ is))

-- Where fewer bytes than a head has begin so, no frame begins there.
pub short_as : (segment number : ℕ) (bytes left : List ℕ) → BeginsAs left bytes → length bytes < 24 → Ends segment number left
short_as segment number bytes left same few p more made is =
    omega (arith, few, ap length same, length-take 24 left, length-take 24 bytes, frame_length segment number left p more is)
