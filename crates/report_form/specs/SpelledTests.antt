-- The definitions, computed on small reports.
use Rattle.std.specs.Prelude.{◌≡◌, ◌∷◌, [], refl, codes, Some, None}
use Rattle.std.specs.Fmt.{digits}
use Rattle.csv.specs.Writing.{fields_text, is_blank}
use Rattle.report_form.specs.Grid.{grid_bytes, point_records}
use Rattle.report_form.specs.Judged.{ends_of}
use Rattle.report_form.specs.Spelled.{overall_text, point_lines, report_text}
use Rattle.report_form.specs.declared.report.Report.{Report}

-- one point under a lamp: 5000 / 9 lux
abbrev one : Report
one = record { columns = 1; points = Some (record { lo = 55555; hi = 55556 }) ∷ []; average = record { lo = 55555; hi = 55556 }; uniformity = Some (record { lo = 999; hi = 1000 }) }

text_of_one : report_text one ≡ codes "point 0 0 555.55 555.56\naverage 555.55 555.56\nuniformity 0.999 1.000\n"
unfolding digits point_lines
text_of_one = refl

overall_of_one : overall_text one ≡ codes "average 555.55 555.56\nuniformity 0.999 1.000\n"
unfolding digits
overall_of_one = refl

ends_of_one : ends_of one ≡ record { average_lo = 555550; average_hi = 555560; uniformity = Some (999, 1000) }
ends_of_one = refl

-- three points in a row, the middle one covered
abbrev pub middle_covered : Report
middle_covered = record {
  columns = 3;
  points = Some (record { lo = 23041; hi = 23042 }) ∷ None ∷ Some (record { lo = 23041; hi = 23042 }) ∷ [];
  average = record { lo = 23041; hi = 23042 };
  uniformity = Some (record { lo = 999; hi = 1000 });
}

text_where_covered : report_text middle_covered ≡ codes "point 0 0 230.41 230.42\npoint 1 0 covered\npoint 2 0 230.41 230.42\naverage 230.41 230.42\nuniformity 0.999 1.000\n"
unfolding digits point_lines
text_where_covered = refl

grid_where_covered : grid_bytes middle_covered ≡ codes "column,row,lower,upper\n0,0,230.41,230.42\n1,0,,\n2,0,230.41,230.42\n"
unfolding digits point_records fields_text is_blank
grid_where_covered = refl

-- two rows of two, and no uniformity
abbrev pub two_rows : Report
two_rows = record {
  columns = 2;
  points = Some (record { lo = 0; hi = 1 }) ∷ Some (record { lo = 2; hi = 30 }) ∷ Some (record { lo = 400; hi = 5000 }) ∷ None ∷ [];
  average = record { lo = 0; hi = 1677 };
  uniformity = None;
}

text_of_two_rows : report_text two_rows
    ≡ codes "point 0 0 0.00 0.01\npoint 1 0 0.02 0.30\npoint 0 1 4.00 50.00\npoint 1 1 covered\naverage 0.00 16.77\nuniformity none\n"
unfolding digits point_lines
text_of_two_rows = refl

grid_of_two_rows : grid_bytes two_rows ≡ codes "column,row,lower,upper\n0,0,0.00,0.01\n1,0,0.02,0.30\n0,1,4.00,50.00\n1,1,,\n"
unfolding digits point_records fields_text is_blank
grid_of_two_rows = refl

ends_of_two_rows : ends_of two_rows ≡ record { average_lo = 0; average_hi = 16770; uniformity = None }
ends_of_two_rows = refl
