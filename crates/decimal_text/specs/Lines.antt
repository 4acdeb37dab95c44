-- A line of a text.
use Rattle.std.specs.Prelude.{ℕ, List, ◌++◌, codes}

-- the text of a line, and its end
abbrev pub line : List ℕ → List ℕ
line text = text ++ codes "\n"
