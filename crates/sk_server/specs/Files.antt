-- The files of a server.
use Rattle.std.specs.Prelude.{ℕ, ◌+◌, ◌==◌, ◌&&◌, nat_lt, Bool, List, []}
use Rattle.std.specs.Option.{unwrap_or}
use Rattle.std.specs.Coded.{Coded, coded_ℕ, coded_list}
use Rattle.std.specs.FinMap as map
use Rattle.sk_ids.specs.Name.{name_order}
use Rattle.sk_objects.specs.Content.{ContentView, content_code}
use Rattle.sk_objects.specs.declared.content.TheConstants.{LAST_VERSION}

-- the files that were stored, by name
abbrev pub FileMap : Type 0
FileMap = map.FinMap name_order ContentView

abbrev pub file_map_code : Coded FileMap
file_map_code = map.code (coded_list coded_ℕ) content_code

-- a file; one that was never stored has version 0 and no bytes
abbrev pub file_of : FileMap → List ℕ → ContentView
file_of files name = unwrap_or (map.get files name) (record { version = 0; bytes = [] })

-- a write that expects this version fits: the file has it, and it is not the last one
abbrev pub is_fitting : FileMap → List ℕ → ℕ → Bool
is_fitting files name expected = ((file_of files name).version == expected) && nat_lt expected LAST_VERSION

-- a write makes the next version
abbrev pub written : FileMap → List ℕ → ℕ → List ℕ → FileMap
written files name expected bytes = map.insert files name (record { version = expected + 1; bytes = bytes })
