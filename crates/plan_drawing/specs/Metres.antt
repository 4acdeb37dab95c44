-- Lengths in metres, and areas in millimetres, as a drawing spells them.
use Rattle.std.specs.Prelude.{ℕ, List, [], ◌∷◌, codes, decimal}
use Rattle.decimal_text.specs.Decimals.{thousandths}
use Rattle.plan_drawing.specs.Pieces.{joined}
use Rattle.plan_drawing.specs.declared.metres.Area.{Area}

-- so many millimetres, in metres
abbrev pub metres : ℕ → List ℕ
metres mm = thousandths mm

-- the attributes of a rectangle: its corner, and how wide and how high it is
abbrev pub area_text : Area → List ℕ
area_text a = joined
    (codes "x='" ∷ decimal a.x ∷ codes "' y='" ∷ decimal a.y ∷ codes "' width='" ∷ decimal a.width ∷ codes "' height='" ∷ decimal a.height
    ∷ codes "'" ∷ [])
