-- Words that stand in every page.
use Rattle.std.specs.Prelude.{ℕ, List, codes}

-- the words, as they are
unfoldable pub fixed : List ℕ → List ℕ
fixed words = words

-- the end of a table
abbrev pub table_end : List ℕ
table_end = fixed (codes "</tbody>\n</table></div>\n")
