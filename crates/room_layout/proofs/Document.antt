-- The document of a text, from what the reader of TOML says.
use Rattle.std.proofs.Common.{◌≡◌, ℕ, Bool, true, false, List, Some, None, Ok, Err, IsUtf8, refl}
use Rattle.std.specs.Str.{is_utf8}
use Rattle.std.proofs.lemmas.Str.{is_utf8-from_IsUtf8, IsUtf8-from_is_utf8}
use Rattle.toml.specs.Data.{Members}
use Rattle.toml.specs.Parse.{parse_document}
use Rattle.room_layout.specs.declared.fault.RoomFault.TheVariants as fault
use Rattle.room_layout.specs.Layout.{document_of}

pub document_read : (bytes : List ℕ) (document : Members) → IsUtf8 bytes → parse_document bytes ≡ Some document → document_of bytes ≡ Ok document
unfolding document_of
document_read bytes document text parsed = rw (is_utf8-from_IsUtf8 bytes text, parsed)

refused_at : (bytes : List ℕ) (b : Bool) → is_utf8 bytes ≡ b → (IsUtf8 bytes → parse_document bytes ≡ None) → document_of bytes ≡ Err fault.NotToml
unfolding document_of
refused_at bytes true text refused = rw (text, refused (IsUtf8-from_is_utf8 bytes text))
refused_at bytes false text refused = rw text

pub document_refused : (bytes : List ℕ) → (IsUtf8 bytes → parse_document bytes ≡ None) → document_of bytes ≡ Err fault.NotToml
document_refused bytes refused = refused_at bytes (is_utf8 bytes) refl refused
