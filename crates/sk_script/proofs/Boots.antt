-- Each declaration keeps what holds of every boot.
use Rattle.sk_script.proofs.Names.{◌≡◌, ◌≢◌, ◌<◌, ◌==◌, ℕ, Bool, true, false, ◌||◌, cond, List, [], ◌∷◌, length, get_or}
use Rattle.sk_script.proofs.Names.{Option, Some, is_some, refl, sym, ap, ◌∙◌, arith, length-append, bytes_eq, list_any}
use Rattle.sk_script.proofs.Names.{get-insert, get-empty, eq_by_cmp, nat_cmp, eq_by_cmp_equiv, nat_cmp_total}
use Rattle.sk_script.proofs.Names.{nat_list_cmp_total, false≢true, Decides-eqb, nat_tests, All-nil, All-push}
use Rattle.sk_script.proofs.Names.{All-weaker, list_any_at, list_any-append, all_pairs_push, bytes_eq-Decides}
use Rattle.sk_script.proofs.Names.{is_eq-slice_cmp, ContentView, name_order, ScriptMap, Instruction, ObjectKind}
use Rattle.sk_script.proofs.Names.{BootObject, BootProcess, BootView, IsBoot, has_script, has_object, has_copy}
use Rattle.sk_script.proofs.Names.{has_process, AreFound, with_script, with_object, with_copy, with_process}
use Rattle.std.specs.FinMap as map

-- where no element passes a test, none does
none_passes : {X : Type 0} (p : X → Bool) (xs : List X) → list_any p xs ≡ false → (k : ℕ) (d : X) → k < length xs → p (get_or xs k d) ≡ true → ⊥
none_passes p xs none k d below passes = false≢true (sym none ∙ list_any_at p xs k d below passes)

pub empty_boot : IsBoot (record { scripts = map.empty; objects = []; copies = []; processes = [] })
empty_boot = record {
  few = omega arith;
  objects_differ = λ i j d before below. absurd (omega arith);
  copies_differ = λ i j d before below. absurd (omega arith);
  processes_differ = λ i j d before below. absurd (omega arith);
  processes_numbered = All-nil _;
  scripts_there = All-nil _;
}

there_still : (found : Bool) (script : List Instruction) (before : Option (List Instruction)) → is_some before ≡ true → is_some (cond found (Some script) before) ≡ true
there_still true script before h = refl
there_still false script before h = h

script_kept : (scripts : ScriptMap) (name other : List ℕ) (script : List Instruction) → is_some (map.get scripts other) ≡ true → is_some (map.get (map.insert scripts name script) other) ≡ true
script_kept scripts name other script h = rw (get-insert nat_list_cmp_total scripts name script other) (there_still (eq_by_cmp name_order other name) script (map.get scripts other) h)

pub script_declared : (b : BootView) (name : List ℕ) (script : List Instruction) → IsBoot b → IsBoot (with_script b name script)
script_declared b name script h = record {
  few = h.few;
  objects_differ = h.objects_differ;
  copies_differ = h.copies_differ;
  processes_differ = h.processes_differ;
  processes_numbered = h.processes_numbered;
  scripts_there = All-weaker (λ (p : BootProcess). has_script b p.script ≡ true) (λ (p : BootProcess). has_script (with_script b name script) p.script ≡ true) (λ p here. script_kept b.scripts name p.script script here) b.processes h.scripts_there;
}

pub object_declared : (b : BootView) (name : List ℕ) (kind : ObjectKind) (bytes : List ℕ) → IsBoot b → length b.objects < 64 → has_object b name ≡ false → IsBoot (with_object b name kind bytes)
object_declared b name kind bytes h room new = record {
  few = omega (arith, length-append {A = BootObject}, room);
  objects_differ = all_pairs_push (λ (o : BootObject) (q : BootObject). o.name ≢ q.name) b.objects (record { name = name; kind = kind; bytes = bytes }) h.objects_differ
      (λ k d below same. none_passes (λ (o : BootObject). bytes_eq o.name name) b.objects new k d below ((bytes_eq-Decides _ name).1 same));
  copies_differ = h.copies_differ;
  processes_differ = h.processes_differ;
  processes_numbered = h.processes_numbered;
  scripts_there = h.scripts_there;
}

pub copy_declared : (b : BootView) (name : List ℕ) (content : ContentView) → IsBoot b → has_copy b name ≡ false → IsBoot (with_copy b name content)
copy_declared b name content h new = record {
  few = h.few;
  objects_differ = h.objects_differ;
  copies_differ = all_pairs_push (λ (c : List ℕ × ContentView) (d : List ℕ × ContentView). c.0 ≢ d.0) b.copies (name, content) h.copies_differ
      (λ k d below same. none_passes (λ (c : List ℕ × ContentView). bytes_eq c.0 name) b.copies new k d below ((bytes_eq-Decides _ name).1 same));
  processes_differ = h.processes_differ;
  processes_numbered = h.processes_numbered;
  scripts_there = h.scripts_there;
}

pub process_declared : (b : BootView) (number : ℕ) (script : List ℕ) (terminal : ℕ) → IsBoot b → 0 < number → 0 < terminal → has_process b number ≡ false → has_script b script ≡ true → IsBoot (with_process b number script terminal)
process_declared b number script terminal h from_one screen new there = record {
  few = h.few;
  objects_differ = h.objects_differ;
  copies_differ = h.copies_differ;
  processes_differ = all_pairs_push (λ (p : BootProcess) (q : BootProcess). p.number ≢ q.number) b.processes (record { number = number; script = script; terminal = terminal }) h.processes_differ
      (λ k d below same. none_passes (λ (p : BootProcess). p.number == number) b.processes new k d below ((Decides-eqb _ number).1 same));
  processes_numbered = All-push (λ (p : BootProcess). (0 < p.number) × (0 < p.terminal)) b.processes (record { number = number; script = script; terminal = terminal }) h.processes_numbered (from_one, screen);
  scripts_there = All-push (λ (p : BootProcess). has_script b p.script ≡ true) b.processes (record { number = number; script = script; terminal = terminal }) h.scripts_there there;
}

-- ---- what is found by name and number

more_found : (test before : Bool) (o : Option (Unit {0})) (u : Unit {0}) → is_some o ≡ before → is_some (cond test (Some u) o) ≡ (before || (test || false))
more_found true true o u is = refl
more_found true false o u is = refl
more_found false true o u is = is
more_found false false o u is = is

pub none_found : AreFound map.empty map.empty (record { scripts = map.empty; objects = []; copies = []; processes = [] })
none_found = record { copies = λ name. rw (get-empty name_order name) refl; processes = λ number. rw (get-empty nat_cmp number) refl }

-- what has no name or number of a copy or process leaves them as they are
pub still_found : (copied : map.FinMap name_order (Unit {0})) (numbered : map.FinMap nat_cmp (Unit {0})) (b : BootView) (scripts : ScriptMap) (objects : List BootObject)
    → AreFound copied numbered b → AreFound copied numbered (record b { scripts = scripts; objects = objects })
still_found copied numbered b scripts objects h = record { copies = h.copies; processes = h.processes }

pub copy_found : (copied : map.FinMap name_order (Unit {0})) (numbered : map.FinMap nat_cmp (Unit {0})) (b : BootView) (name : List ℕ) (u : Unit {0}) (content : ContentView)
    → AreFound copied numbered b → AreFound (map.insert copied name u) numbered (with_copy b name content)
copy_found copied numbered b name u content h = record {
  copies = λ other.
      let ties : eq_by_cmp name_order other name ≡ bytes_eq name other =
      (eq_by_cmp_equiv nat_list_cmp_total).symm other name ∙ is_eq-slice_cmp name other in
      rw (get-insert nat_list_cmp_total copied name u other)
      (more_found (eq_by_cmp name_order other name) (has_copy b other) (map.get copied other) u (h.copies other)
      ∙ ap (λ t. has_copy b other || (t || false)) ties
      ∙ sym (list_any-append (λ (c : List ℕ × ContentView). bytes_eq c.0 other) b.copies ((name, content) ∷ [])));
  processes = h.processes;
}

pub process_found : (copied : map.FinMap name_order (Unit {0})) (numbered : map.FinMap nat_cmp (Unit {0})) (b : BootView) (number : ℕ) (u : Unit {0}) (script : List ℕ) (terminal : ℕ)
    → AreFound copied numbered b → AreFound copied (map.insert numbered number u) (with_process b number script terminal)
process_found copied numbered b number u script terminal h = record {
  copies = h.copies;
  processes = λ other.
      let ties : eq_by_cmp nat_cmp other number ≡ (number == other) = grind (arith, nat_tests) in
      rw (get-insert nat_cmp_total numbered number u other)
      (more_found (eq_by_cmp nat_cmp other number) (has_process b other) (map.get numbered other) u (h.processes other)
      ∙ ap (λ t. has_process b other || (t || false)) ties
      ∙ sym (list_any-append (λ (p : BootProcess). p.number == other) b.processes (record { number = number; script = script; terminal = terminal } ∷ [])));
}
