-- What a part of a literal prints.
use Rattle.std.specs.Prelude.{ℕ, List}
use Rattle.sk_words.specs.Spelling.{spelled_byte}
use Rattle.sk_words.specs.declared.spelling.Part.{Part}
use Rattle.sk_words.specs.declared.spelling.Part.TheVariants.{Plain, Other}

-- plain bytes are themselves, and another byte is spelled
abbrev pub part_text : Part → List ℕ
part_text (Plain bytes) = bytes.now
part_text (Other byte) = spelled_byte byte.0
