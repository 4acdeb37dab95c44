-- Parts of pages, computed.
use Rattle.std.specs.Prelude.{◌≡◌, ◌++◌, refl, codes, [], ◌∷◌, Some, None}
use Rattle.std.specs.Fmt.{digits}
use Rattle.limit_verdict.specs.declared.verdict.Verdict.TheVariants.{Met, Undecided}
use Rattle.report_form.specs.declared.report.Report.{Report}
use Rattle.report_page.specs.Cards.{answered, asked_card, asked_for, limit_card, lux_text, share_text, signed_word}
use Rattle.report_page.specs.Escaped.{escaped}
use Rattle.report_page.specs.Lamps.{place_cells, size_text}
use Rattle.report_page.specs.Opening.{counted}
use Rattle.report_page.specs.Points.{point_row}
use Rattle.report_page.specs.Surfaces.{row_of_box, stretch, surface_row}

-- the five references, and a letter that is the two bytes 195 and 188 in UTF-8
five_references : escaped (38 ∷ 60 ∷ 62 ∷ 34 ∷ 39 ∷ 195 ∷ 188 ∷ []) ≡ codes "&amp;&lt;&gt;&quot;&#39;" ++ (195 ∷ 188 ∷ [])
unfolding escaped
five_references = refl

-- what is escaped twice reads as it was escaped once
escaped_again : escaped (escaped (codes "<")) ≡ codes "&amp;lt;"
unfolding escaped
escaped_again = refl

one_lamp : counted 1 (codes "lamp") (codes "lamps") ≡ codes "1 lamp"
unfolding digits
one_lamp = refl

no_lamps : counted 0 (codes "lamp") (codes "lamps") ≡ codes "0 lamps"
unfolding digits
no_lamps = refl

found : lux_text (record { lo = 41; hi = 30126 }) ≡ codes "0.41 to 301.26 lx"
unfolding digits
found = refl

no_share : share_text None ≡ codes "none: the average may be 0"
no_share = refl

average_met : limit_card (codes "Average") (codes " lx") (Some 300000) (Some Met)
    ≡ codes "<div class='met'><dt>Average asked for: at least 300.000 lx</dt><dd>&#10003; met</dd></div>\n"
unfolding digits asked_card asked_for answered signed_word
average_met = refl

uniformity_undecided : limit_card (codes "Uniformity") [] (Some 600) (Some Undecided)
    ≡ codes "<div class='undecided'><dt>Uniformity asked for: at least 0.600</dt><dd>? undecided</dd></div>\n"
unfolding digits asked_card asked_for answered signed_word
uniformity_undecided = refl

no_card : limit_card (codes "Average") (codes " lx") None None ≡ []
no_card = refl

a_place : place_cells (record { x = 1200; y = 50; z = 2800 }) ≡ codes "<td>1.200</td><td>0.050</td><td>2.800</td>"
unfolding digits
a_place = refl

a_size : size_text 300 1200 ≡ codes "0.300 by 1.200"
unfolding digits
a_size = refl

a_wall : surface_row (codes "Far x wall") 510 ≡ codes "<tr><td>Far x wall</td><td>0.510</td></tr>\n"
unfolding digits surface_row
a_wall = refl

a_box : row_of_box 7 (record { lo = record { x = 100; y = 200; z = 0 }; hi = record { x = 1900; y = 1400; z = 2000 }; reflect = 310 })
    ≡ codes "<tr><td>7</td><td>0.100 to 1.900</td><td>0.200 to 1.400</td><td>0.000 to 2.000</td><td>0.310</td></tr>\n"
unfolding digits row_of_box stretch
a_box = refl

-- three columns, of which the second row begins with a covered point
two_rows : Report
two_rows = record {
  columns = 3;
  points = Some (record { lo = 1; hi = 2 }) ∷ Some (record { lo = 3; hi = 4 }) ∷ Some (record { lo = 5; hi = 6 }) ∷ None ∷ Some (record { lo = 7; hi = 30126 }) ∷ [];
  average = record { lo = 0; hi = 9000 };
  uniformity = None;
}

a_covered_point : point_row two_rows 3 ≡ codes "<tr><td>0</td><td>1</td><td colspan='2'>covered</td></tr>\n"
unfolding digits two_rows
a_covered_point = refl

a_point : point_row two_rows 4 ≡ codes "<tr><td>1</td><td>1</td><td>0.07</td><td>301.26</td></tr>\n"
unfolding digits two_rows
a_point = refl
