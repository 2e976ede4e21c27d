-- What a kernel starts from.
use Rattle.std.specs.Prelude.{◌≡◌, ◌≢◌, ◌<◌, ◌≤◌, ℕ, Bool, true, List, length, All, AllPairs, [], ◌∷◌, ◌++◌, Option, Some, None, is_some, Result, Ok, Err, refl, ◌==◌, bytes_eq, if◌then◌else◌}
use Rattle.sk_script.specs.Base.{list_any, Coded, code_by, coded×, coded_ℕ, coded_list, nat_cmp, name_order}
use Rattle.sk_script.specs.Base.{ContentView, content_code, Instruction, ObjectKind, BootObject, BootProcess}
use Rattle.sk_script.specs.Base.{BootFault, Duplicate, NoScript, Memory}
use Rattle.std.specs.FinMap as map
use Rattle.sk_script.specs.Scripts.{ScriptMap, script_map_code}
use Rattle.sk_script.specs.contracts.boot.BootObject as boot_object
use Rattle.sk_script.specs.contracts.boot.BootProcess as boot_process

-- the scripts by name, and the rest in the order of declaration
pub record BootView : Type 0 where
  pub scripts : ScriptMap
  pub objects : List BootObject
  pub copies : List (List ℕ × ContentView)
  pub processes : List BootProcess

abbrev pub boot_code : Coded BootView
boot_code = code_by (ScriptMap × (List BootObject × (List (List ℕ × ContentView) × List BootProcess)))
    (coded× script_map_code (coded× (coded_list boot_object.the_row.coded) (coded× (coded_list (coded× (coded_list coded_ℕ) content_code)) (coded_list boot_process.the_row.coded))))
    (λ b. (b.scripts, (b.objects, (b.copies, b.processes))))
    (λ p. record { scripts = p.0; objects = p.1.0; copies = p.1.1.0; processes = p.1.1.1 })
    (λ _. refl)

-- the greatest number of boot objects
abbrev pub BOOT_OBJECTS : ℕ
BOOT_OBJECTS = 64

-- ---- what is there: scripts, objects and copies are named apart

abbrev pub has_script : BootView → List ℕ → Bool
has_script b name = is_some (map.get b.scripts name)

abbrev pub has_object : BootView → List ℕ → Bool
has_object b name = list_any (λ o. bytes_eq o.name name) b.objects

abbrev pub has_copy : BootView → List ℕ → Bool
has_copy b name = list_any (λ c. bytes_eq c.0 name) b.copies

abbrev pub has_process : BootView → ℕ → Bool
has_process b number = list_any (λ p. p.number == number) b.processes

-- found are the copies by their names and the processes by their numbers, and nothing else
pub record AreFound (copied : map.FinMap name_order (Unit {0})) (numbered : map.FinMap nat_cmp (Unit {0})) (b : BootView) : Type 0 where
  pub copies : (name : List ℕ) → is_some (map.get copied name) ≡ has_copy b name
  pub processes : (number : ℕ) → is_some (map.get numbered number) ≡ has_process b number

-- What holds of every boot: it has at most 64 objects, no two objects or copies have one name, and no two processes
-- one number. Each process and its terminal have a number from 1 on, and its script is there.
pub record IsBoot (b : BootView) : Type 0 where
  pub few : length b.objects ≤ BOOT_OBJECTS
  pub objects_differ : AllPairs (λ o q. o.name ≢ q.name) b.objects
  pub copies_differ : AllPairs (λ c d. c.0 ≢ d.0) b.copies
  pub processes_differ : AllPairs (λ p q. p.number ≢ q.number) b.processes
  pub processes_numbered : All (λ p. (0 < p.number) × (0 < p.terminal)) b.processes
  pub scripts_there : All (λ p. has_script b p.script ≡ true) b.processes

-- ---- what is there after a declaration

-- one script more is declared
abbrev pub with_script : BootView → List ℕ → List Instruction → BootView
with_script b name script = record b { scripts = map.insert b.scripts name script }

-- one boot object more is declared, behind those before it
abbrev pub with_object : BootView → List ℕ → ObjectKind → List ℕ → BootView
with_object b name kind bytes = record b { objects = b.objects ++ record { name = name; kind = kind; bytes = bytes } ∷ [] }

-- one copy more is declared, behind those before it
abbrev pub with_copy : BootView → List ℕ → ContentView → BootView
with_copy b name content = record b { copies = b.copies ++ (name, content) ∷ [] }

-- one process more is declared, behind those before it
abbrev pub with_process : BootView → ℕ → List ℕ → ℕ → BootView
with_process b number script terminal = record b { processes = b.processes ++ record { number = number; script = script; terminal = terminal } ∷ [] }

-- ---- what stands against a declaration, want of memory aside

abbrev pub duplicate_if : Bool → Option BootFault
duplicate_if taken = if taken then Some Duplicate else None

-- what stands against a script of this name
abbrev pub script_fault : BootView → List ℕ → Option BootFault
script_fault b name = duplicate_if (has_script b name)

-- what stands against a boot object of this name
abbrev pub object_fault : BootView → List ℕ → Option BootFault
object_fault b name = duplicate_if (has_object b name)

-- what stands against a copy of this name
abbrev pub copy_fault : BootView → List ℕ → Option BootFault
copy_fault b name = duplicate_if (has_copy b name)

-- the number first, and then the script
abbrev pub process_fault : BootView → ℕ → List ℕ → Option BootFault
process_fault b number script = if has_process b number then Some Duplicate else if has_script b script then None else Some NoScript

-- A declaration is made where no fault stands against it; else that fault is told, and nothing changes. Memory
-- can be wanting only where there is no other fault.
abbrev pub Declares : Result (Unit {0}) BootFault → Option BootFault → BootView → BootView → BootView → Type 0
Declares (Ok u) fault old made new = (fault ≡ None) × (new ≡ made)
Declares (Err Memory) fault old made new = (fault ≡ None) × (new ≡ old)
Declares (Err told) fault old made new = (fault ≡ Some told) × (new ≡ old)
