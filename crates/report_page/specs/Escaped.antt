-- Text from outside as it stands in a page: the five characters that could be taken for markup are written as references.
use Rattle.std.specs.Prelude.{ℕ, ◌≡◌, ◌≢◌, ◌⊎◌, ◌==◌, if◌then◌else◌, List, [], ◌∷◌, ◌++◌, All, codes, flat_map}

-- a byte of a text in UTF-8: `&`, `<`, `>`, `"` and `'` by their references, and each other byte as it is
abbrev pub escape : ℕ → List ℕ
escape c = if c == 38 then codes "&amp;"
    else (if c == 60 then codes "&lt;" else (if c == 62 then codes "&gt;" else (if c == 34 then codes "&quot;" else (if c == 39 then codes "&#39;" else (c ∷ [])))))

-- all bytes of a text
unfoldable pub escaped : List ℕ → List ℕ
escaped text = flat_map escape text

-- ---- what holds of it

-- a byte that neither opens or closes a tag nor ends an attribute
abbrev pub IsHarmless : ℕ → Type 0
IsHarmless c = (c ≢ 60) × (c ≢ 62) × (c ≢ 34) × (c ≢ 39)

abbrev pub BeginsWith : List ℕ → List ℕ → Type 0
BeginsWith word text = (rest : List ℕ) × (text ≡ word ++ rest)

-- the rest of one of the five references, behind its ampersand
abbrev pub EndsReference : List ℕ → Type 0
EndsReference text =
    BeginsWith (codes "amp;") text ⊎ (BeginsWith (codes "lt;") text ⊎ (BeginsWith (codes "gt;") text ⊎ (BeginsWith (codes "quot;") text ⊎ BeginsWith (codes "#39;") text)))

-- each ampersand of a text begins one of the five references
abbrev pub AllRefer : List ℕ → Type 0
AllRefer [] = Unit {0}
AllRefer (c ∷ more) = (c ≡ 38 → EndsReference more) × AllRefer more

-- nothing of a text is markup
pub record IsPlain (text : List ℕ) : Type 0 where
  pub harmless : All IsHarmless text
  pub refer : AllRefer text

-- escaped text is plain, whatever the text is
abbrev pub EscapedIsPlain : Type 0
EscapedIsPlain = (text : List ℕ) → IsPlain (escaped text)
