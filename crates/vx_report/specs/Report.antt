-- The text of a report.
use Rattle.std.specs.Prelude.{ℕ, suc, true, List, [], ◌∷◌, ◌++◌, codes, decimal}
use Rattle.hex.specs.Hex.{encode_lower}
use Rattle.vx_layout_spec.specs.LayoutTree.{LayoutData}
use Rattle.vx_model.specs.ValueData.{ValueData}
use Rattle.vx_display.specs.Text.{display_text}
use Rattle.vx_report.specs.RowText.{row_lines}
use Rattle.vx_write_answer.specs.declared.step.Step.{Step}
use Rattle.vx_report.specs.TraceText.{step_lines}
use Rattle.vx_report.specs.ZoneText.{zone_tables, zone_lines}

-- a segment's number and its bytes as hex text
abbrev pub segment_line : ℕ → List ℕ → List ℕ
segment_line n b = decimal n ++ (codes " " ++ (encode_lower b ++ codes "\n"))

-- a line a segment
abbrev pub segment_lines : ℕ → List (List ℕ) → List ℕ
segment_lines n [] = []
segment_lines n (b ∷ bs) = segment_line n b ++ segment_lines (suc n) bs

-- what stands before the steps: the layout's verbose tree, the segments, and the rows of the layout's zone tables
abbrev pub report_front : ℕ → LayoutData ℕ → List (List ℕ) → List (List ValueData) → List ℕ
report_front first l segments tables =
    codes "layout\n" ++ (display_text true l ++ (codes "segments\n" ++ (segment_lines first segments ++ (codes "zones\n" ++ zone_lines 0 (zone_tables l) tables))))

-- The report of a write: the layout's verbose tree, the segments from the first number on, the rows of the layout's zone tables, the steps,
-- and the rows.
abbrev pub report : ℕ → LayoutData ℕ → List (List ℕ) → List (List ValueData) → List Step → List ValueData → List ℕ
report first l segments tables steps rows =
    codes "layout\n" ++ (display_text true l ++ (codes "segments\n" ++ (segment_lines first segments ++ (codes "zones\n" ++ (zone_lines 0 (zone_tables l) tables ++ (codes "trace\n" ++ (step_lines steps ++ (codes "rows\n" ++ row_lines rows))))))))

-- the refusal's name, the segments that were appended, and the steps before
abbrev pub refused_report : List ℕ → ℕ → List (List ℕ) → List Step → List ℕ
refused_report name first segments steps =
    codes "refused " ++ (name ++ (codes "\nsegments\n" ++ (segment_lines first segments ++ (codes "trace\n" ++ step_lines steps))))

-- ---- of a write by columns, whose steps aren't told

abbrev pub columns_report : ℕ → LayoutData ℕ → List (List ℕ) → List (List ValueData) → List ValueData → List ℕ
columns_report first l segments tables rows =
    codes "layout\n" ++ (display_text true l ++ (codes "segments\n" ++ (segment_lines first segments ++ (codes "zones\n" ++ (zone_lines 0 (zone_tables l) tables ++ (codes "rows\n" ++ row_lines rows))))))

abbrev pub refused_columns : List ℕ → ℕ → List (List ℕ) → List ℕ
refused_columns name first segments = codes "refused " ++ (name ++ (codes "\nsegments\n" ++ segment_lines first segments))
