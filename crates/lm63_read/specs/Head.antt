-- The lines before the items.
use Rattle.std.specs.Prelude.{ℕ, ◌+◌, ◌-◌, ◌==◌, nat_eq, Bool, true, false, not, ◌&&◌, ◌||◌, if◌then◌else◌, List, [], ◌∷◌, length, take, drop, codes, Option, Some, None, Result, Ok, Err}
use Rattle.std.specs.List.{prefix_len, suffix_len, starts_with}
use Rattle.std.specs.Str.{bytes_eq}
use Rattle.lm63_read.specs.Items.{items_of}
use Rattle.decimal_text.specs.Steps.{◌>>=◌}
use Rattle.lm63_read.specs.Files.{ies, IesFile}
use Rattle.lm63_read.specs.declared.head.Header.{Header}
use Rattle.lm63_read.specs.declared.head.Header.TheVariants.{Of1991, Of1995, Of2002}
use Rattle.lm63_read.specs.declared.fault.IesFault.{IesFault}
use Rattle.lm63_read.specs.declared.fault.IesFault.TheVariants as fault

abbrev pub is_of_line : ℕ → Bool
is_of_line b = not (b == 10)

-- how many bytes stand before the first LF
abbrev pub line_len : List ℕ → ℕ
line_len bytes = prefix_len is_of_line bytes

abbrev pub first_line : List ℕ → List ℕ
first_line bytes = take (line_len bytes) bytes

-- what stands behind that LF
abbrev pub next_lines : List ℕ → List ℕ
next_lines bytes = drop (line_len bytes + 1) bytes

-- space, tab and CR
abbrev pub is_blank : ℕ → Bool
is_blank b = b == 32 || b == 9 || b == 13

-- those at the end left out
abbrev pub trimmed : List ℕ → List ℕ
trimmed line = take (length line - suffix_len is_blank line) line

-- the first line names the edition
unfoldable pub header_of : List ℕ → Result Header IesFault
header_of text =
    if bytes_eq text (codes "IESNA:LM-63-2002") then Ok Of2002
    else (if bytes_eq text (codes "IESNA:LM-63-1995") then Ok Of1995
    else (if bytes_eq text (codes "IESNA91") then Ok Of1991 else Err fault.Version))

abbrev pub begins_tilt : List ℕ → Bool
begins_tilt bytes = starts_with nat_eq bytes (codes "TILT=")

-- the lines from the first on that begins with `TILT=`; `fresh` is whether a line begins here
unfoldable pub tilt_from : Bool → List ℕ → Option (List ℕ)
tilt_from fresh [] = None
tilt_from fresh (b ∷ bytes) = if fresh && begins_tilt (b ∷ bytes) then Some (b ∷ bytes) else tilt_from (b == 10) bytes

abbrev pub found : Option (List ℕ) → Result (List ℕ) IesFault
found None = Err fault.NoTilt
found (Some lines) = Ok lines

-- whether the tilt is among the items
unfoldable pub tilted : List ℕ → Result Bool IesFault
tilted text =
    if bytes_eq text (codes "NONE") then Ok false
    else (if bytes_eq text (codes "INCLUDE") then Ok true else Err fault.TiltFile)

-- what a file says, or why it is refused
unfoldable pub file_of : List ℕ → Result IesFile IesFault
file_of bytes = do
  header ← header_of (trimmed (first_line bytes))
  lines ← found (tilt_from true (next_lines bytes))
  included ← tilted (drop 5 (trimmed (first_line lines)))
  ies header (items_of (next_lines lines)) included
