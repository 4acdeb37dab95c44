-- A claim that a system shows is a lower claim and an upper claim that its ends show.
use Rattle.radiosity_solve.specs.Turn.{next_low, next_high}
use Rattle.radiosity_solve.specs.Claim.{ShownClaimBounds}
use Rattle.radiosity_solve.proofs.Compose.{shown_claim_holds}

pub shown_claim_bounds : ShownClaimBounds
unfolding next_low next_high
shown_claim_bounds s lower upper y light shown =
    shown_claim_holds s lower upper y light (record { row = λ i l. (shown.at i l).below }) (record { row = λ i l. (shown.at i l).above })
