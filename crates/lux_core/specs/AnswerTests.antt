-- Words and answers, computed.
use Rattle.std.specs.Prelude.{◌≡◌, ◌++◌, ℕ, List, [], ◌∷◌, true, false, refl, codes, decimal, Some, None}
use Rattle.std.specs.Fmt.{digits}
use Rattle.std.proofs.Common.{lit≤, inl, inr}
use Rattle.decimal_text.specs.Decimals.{thousandths}
use Rattle.decimal_text.specs.Lines.{line}
use Rattle.room_layout.specs.Place.{point_of}
use Rattle.dimming_plan.specs.FaultText.{fault_text}
use Rattle.dimming_plan.specs.declared.fault.PlanFault.TheVariants as plan_fault
use Rattle.scene_system.specs.declared.fault.SceneFault.TheVariants as scene_fault
use Rattle.escape_route.specs.declared.route.RouteFault.TheVariants as route_fault
use Rattle.lux_core.specs.Answers.{IsAnswer}
use Rattle.lux_core.specs.Escapes.{route_fault_text}
use Rattle.lux_core.specs.LightAnswers.{scene_fault_text}
use Rattle.lux_core.specs.Spellings.{limits_status}
use Rattle.lux_core.specs.Runs.{Run, run}
use Rattle.lux_core.specs.Codes.{status_code}
use Rattle.lux_core.specs.Commands.{names_file, number_after, coordinate, are_rising, question_of, file_name, second_name, marked_lamps, names_lm63, usage_line}
use Rattle.lux_core.specs.declared.status.Status.TheVariants as status
use Rattle.lux_core.specs.declared.words.FileQuestion.TheVariants as file
use Rattle.lux_core.specs.declared.words.LightQuestion.TheVariants.{Report, Claim}
use Rattle.lux_core.specs.declared.words.Question.TheVariants as question
use Rattle.lux_core.specs.declared.words.Format.TheVariants.{Lm63, Eulumdat}
use Rattle.lux_core.specs.declared.words.PhotometryQuestion.TheVariants as photometry
use Rattle.lux_core.specs.declared.words.RoomQuestion.TheVariants.{Light, Check, Dim, Sight, Escape}
use Rattle.lux_core.specs.declared.words.Spelling.TheVariants.{Lines, Records}

-- ---- numbers

zero_word : coordinate (codes "0") ≡ Some 0
unfolding number_after
zero_word = refl

plain_word : coordinate (codes "1500") ≡ Some 1500
unfolding number_after
plain_word = refl

greatest_word : coordinate (codes "100000") ≡ Some 100000
unfolding number_after
greatest_word = refl

above_the_greatest : coordinate (codes "100001") ≡ None
unfolding number_after
above_the_greatest = refl

-- past 64 bits
long_word : coordinate (codes "18446744073709551617") ≡ None
unfolding number_after
long_word = refl

leading_zero : coordinate (codes "01") ≡ None
leading_zero = refl

two_zeros : coordinate (codes "00") ≡ None
two_zeros = refl

empty_word : coordinate [] ≡ None
empty_word = refl

letter_after_a_digit : coordinate (codes "7x") ≡ None
letter_after_a_digit = refl

signed_word : coordinate (codes "-1") ≡ None
signed_word = refl

plus_word : coordinate (codes "+1") ≡ None
plus_word = refl

-- ---- names

plain_name : names_file (codes "my room.toml") ≡ true
plain_name = refl

empty_name : names_file [] ≡ false
empty_name = refl

-- `a`, a line's end, `b`
two_lines : names_file (97 ∷ 10 ∷ 98 ∷ []) ≡ false
two_lines = refl

delete_in_a_name : names_file (97 ∷ 127 ∷ []) ≡ false
delete_in_a_name = refl

-- ---- commands

abbrev report_words : List (List ℕ)
report_words = codes "report" ∷ codes "room.toml" ∷ []

abbrev sight_words : List ℕ → List (List ℕ)
sight_words last = codes "sight" ∷ codes "room.toml" ∷ codes "0" ∷ codes "1500" ∷ codes "20" ∷ codes "3000" ∷ codes "7" ∷ last ∷ []

asks_for_a_report : question_of report_words ≡ Some (question.File (file.Room (Light (Report Lines))))
asks_for_a_report = refl

name_of_the_room : file_name report_words ≡ codes "room.toml"
name_of_the_room = refl

-- three words to a point, and a mm has two halves
asks_for_sight : question_of (sight_words (codes "100000")) ≡ Some (question.File (file.Room (Sight (point_of (record { x = 0; y = 3000; z = 40 })) (point_of (record { x = 6000; y = 14; z = 200000 })))))
unfolding number_after
asks_for_sight = refl

asks_to_read : question_of (codes "read" ∷ codes "C.IeS" ∷ []) ≡ Some (question.File (file.Photometry Lm63 photometry.Summary))
asks_to_read = refl

asks_for_the_first_set : question_of (codes "read" ∷ codes "A.LDT" ∷ []) ≡ Some (question.File (file.Photometry (Eulumdat 1) photometry.Summary))
asks_for_the_first_set = refl

asks_for_the_last_set : question_of (codes "read" ∷ codes "a.ldt" ∷ codes "20" ∷ []) ≡ Some (question.File (file.Photometry (Eulumdat 20) photometry.Summary))
unfolding number_after
asks_for_the_last_set = refl

set_past_the_last : question_of (codes "read" ∷ codes "a.ldt" ∷ codes "21" ∷ []) ≡ None
unfolding number_after
set_past_the_last = refl

set_of_no_number : question_of (codes "read" ∷ codes "c.ies" ∷ codes "0" ∷ []) ≡ None
unfolding number_after
set_of_no_number = refl

abbrev flux_words : (set lumens : List ℕ) → List (List ℕ)
flux_words set lumens = codes "flux" ∷ codes "a.ldt" ∷ set ∷ lumens ∷ []

asks_for_a_flux : question_of (flux_words (codes "2") (codes "1000000")) ≡ Some (question.File (file.Photometry (Eulumdat 2) (photometry.Flux 1000000)))
unfolding number_after
asks_for_a_flux = refl

past_a_million_lumens : question_of (flux_words (codes "2") (codes "1000001")) ≡ None
unfolding number_after
past_a_million_lumens = refl

flux_of_no_set : question_of (flux_words (codes "0") (codes "1000")) ≡ None
unfolding number_after
flux_of_no_set = refl

flux_without_lumens : question_of (codes "flux" ∷ codes "a.ldt" ∷ codes "1" ∷ []) ≡ None
flux_without_lumens = refl

abbrev escape_words : (limit lamp : List ℕ) → List (List ℕ)
escape_words limit lamp =
    codes "escape" ∷ codes "room.toml" ∷ codes "2000" ∷ codes "3000" ∷ codes "4000" ∷ codes "3000" ∷ limit ∷ codes "40" ∷ codes "0" ∷ lamp ∷ []

asks_for_a_route : question_of (escape_words (codes "1000000000") (codes "255"))
    ≡ Some (question.File (file.Room (Escape (record { x0 = 2000; y0 = 3000; x1 = 4000; y1 = 3000 }) (record { least = 1000000000; ratio = 40 }))))
unfolding number_after are_rising
asks_for_a_route = refl

marks_two_lamps : marked_lamps (escape_words (codes "0") (codes "255")) ≡ 0 ∷ 255 ∷ []
unfolding number_after
marks_two_lamps = refl

past_a_million_lux : question_of (escape_words (codes "1000000001") (codes "255")) ≡ None
unfolding number_after are_rising
past_a_million_lux = refl

past_the_last_lamp : question_of (escape_words (codes "1000") (codes "256")) ≡ None
unfolding number_after are_rising
past_the_last_lamp = refl

lamp_named_twice : question_of (escape_words (codes "1000") (codes "0")) ≡ None
unfolding number_after are_rising
lamp_named_twice = refl

route_without_lamps : question_of (codes "escape" ∷ codes "room.toml" ∷ codes "0" ∷ codes "0" ∷ codes "0" ∷ codes "0" ∷ codes "0" ∷ codes "1" ∷ []) ≡ None
route_without_lamps = refl

short_name : names_lm63 (codes "ies") ≡ false
short_name = refl

past_100_m : question_of (sight_words (codes "100001")) ≡ None
unfolding number_after
past_100_m = refl

no_words : question_of [] ≡ None
no_words = refl

no_room : question_of (codes "report" ∷ []) ≡ None
no_room = refl

nameless_room : question_of (codes "report" ∷ [] ∷ []) ≡ None
nameless_room = refl

a_word_too_many : question_of (codes "report" ∷ codes "room.toml" ∷ codes "x" ∷ []) ≡ None
a_word_too_many = refl

capital_letter : question_of (codes "Report" ∷ codes "room.toml" ∷ []) ≡ None
capital_letter = refl

asks_for_the_grid : question_of (codes "grid" ∷ codes "room.toml" ∷ []) ≡ Some (question.File (file.Room (Light (Report Records))))
asks_for_the_grid = refl

asks_for_a_claim : question_of (codes "certify" ∷ codes "room.toml" ∷ []) ≡ Some (question.File (file.Room (Light Claim)))
asks_for_a_claim = refl

asks_to_check : question_of (codes "check" ∷ codes "room.toml" ∷ codes "claim.csv" ∷ []) ≡ Some (question.File (file.Room Check))
asks_to_check = refl

name_of_the_claim : second_name (codes "check" ∷ codes "room.toml" ∷ codes "claim.csv" ∷ []) ≡ codes "claim.csv"
name_of_the_claim = refl

claim_without_a_name : question_of (codes "check" ∷ codes "room.toml" ∷ [] ∷ []) ≡ None
claim_without_a_name = refl

asks_for_a_plan : question_of (codes "dim" ∷ codes "room.toml" ∷ codes "plan.csv" ∷ codes "1000000000" ∷ []) ≡ Some (question.File (file.Room (Dim 1000000000)))
unfolding number_after
asks_for_a_plan = refl

name_of_the_plan : second_name (codes "dim" ∷ codes "room.toml" ∷ codes "plan.csv" ∷ codes "0" ∷ []) ≡ codes "plan.csv"
name_of_the_plan = refl

plan_for_too_much_light : question_of (codes "dim" ∷ codes "room.toml" ∷ codes "plan.csv" ∷ codes "1000000001" ∷ []) ≡ None
unfolding number_after
plan_for_too_much_light = refl

plan_for_no_light_asked : question_of (codes "dim" ∷ codes "room.toml" ∷ codes "plan.csv" ∷ []) ≡ None
plan_for_no_light_asked = refl

plan_without_a_name : question_of (codes "dim" ∷ codes "room.toml" ∷ [] ∷ codes "0" ∷ []) ≡ None
plan_without_a_name = refl

asks_for_a_trial : question_of (codes "trial" ∷ codes "40" ∷ []) ≡ Some (question.Trial 40)
unfolding number_after
asks_for_a_trial = refl

trial_past_the_last : question_of (codes "trial" ∷ codes "41" ∷ []) ≡ None
unfolding number_after
trial_past_the_last = refl

seven_words : question_of (codes "sight" ∷ codes "room.toml" ∷ codes "0" ∷ codes "0" ∷ codes "0" ∷ codes "0" ∷ codes "0" ∷ []) ≡ None
seven_words = refl

nine_words : question_of (codes "sight" ∷ codes "room.toml" ∷ codes "0" ∷ codes "0" ∷ codes "0" ∷ codes "0" ∷ codes "0" ∷ codes "0" ∷ codes "0" ∷ []) ≡ None
nine_words = refl

-- ---- texts

many_patches : line (codes "refused scene " ++ scene_fault_text (scene_fault.TooManyPatches 15000)) ≡ codes "refused scene 2 TooManyPatches 15000\n"
unfolding digits
many_patches = refl

bright_lamps : line (codes "refused scene " ++ scene_fault_text scene_fault.TotalIntensity) ≡ codes "refused scene 1 TotalIntensity\n"
bright_lamps = refl

covered_task : line (codes "refused scene " ++ scene_fault_text scene_fault.NoTaskPoint) ≡ codes "refused scene 3 NoTaskPoint\n"
covered_task = refl

slanting_line : line (codes "refused escape " ++ route_fault_text route_fault.Line) ≡ codes "refused escape 1 Line\n"
slanting_line = refl

missing_lamp : line (codes "refused escape " ++ route_fault_text (route_fault.Lamp 255)) ≡ codes "refused escape 2 Lamp 255\n"
unfolding digits
missing_lamp = refl

-- as the record `HasHeavyRow` spells it
heavy_row : line (codes "refused rows 1 RowSum " ++ decimal 0 ++ codes " " ++ thousandths 1140) ≡ codes "refused rows 1 RowSum 0 1.140\n"
unfolding digits
heavy_row = refl

plan_of_one_lamp_for_two : line (codes "refused plan " ++ fault_text plan_fault.Count) ≡ codes "refused plan 2 Count\n"
plan_of_one_lamp_for_two = refl

missed_code : status_code status.Missed ≡ 10
missed_code = refl

memory_code : status_code status.Memory ≡ 5
memory_code = refl

-- ---- answers

-- a shelf without files: one absence was counted, or one fault
abbrev run_of : ℕ → ℕ → Run
run_of absences faults = run (Some []) 0 absences 0 faults 0

usage_of_no_words : IsAnswer [] (run_of 0 0) status.Usage usage_line
usage_of_no_words = inl (record { status_is = refl; none = refl; text_is = refl })

absent_room : IsAnswer report_words (run_of 1 0) status.Refused (codes "refused room.toml Absent\n")
absent_room = inr (record {
  asked = question.File (file.Room (Light (Report Lines)));
  command = refl;
  answer = inl (inl (record { status_is = refl; text_is = refl; rose = lit≤ tt; faults = refl; told = refl; taken = λ e. cc }));
})

read_fault_of_a_room : IsAnswer report_words (run_of 0 1) status.ReadFault (codes "read fault room.toml\n")
read_fault_of_a_room = inr (record {
  asked = question.File (file.Room (Light (Report Lines)));
  command = refl;
  answer = inl (inr (inr (record { status_is = refl; text_is = refl; rose = lit≤ tt; absences = refl; taken = λ e. cc })));
})

-- ---- limits, by ends in thousandths

missed_before_undecided : limits_status (record { average = Some 300000; uniformity = Some 500 }) (record { average_lo = 299950; average_hi = 299990; uniformity = None }) ≡ status.Missed
missed_before_undecided = refl

undecided_within_the_ends : limits_status (record { average = Some 300000; uniformity = Some 500 }) (record { average_lo = 300000; average_hi = 300040; uniformity = Some (499, 501) }) ≡ status.Undecided
undecided_within_the_ends = refl

met_by_both : limits_status (record { average = Some 300000; uniformity = None }) (record { average_lo = 300000; average_hi = 300040; uniformity = None }) ≡ status.Done
met_by_both = refl
