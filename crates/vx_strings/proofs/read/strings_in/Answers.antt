use Rattle.std.proofs.Common.{◌≡◌, rules, true, ◌∷◌, [], ◌++◌, ◌+◌, map, take, ap, sym, ◌∙◌}
use Rattle.std.specs.Prelude.{if◌then◌else◌}
use Rattle.std.proofs.lemmas.List.{map_more}
use Rattle.vx_model.specs.declared.cell.Cell.{Cell}
use Rattle.vx_model.specs.CellData.{null_cell}
use Rattle.vx_model.specs.TreeView.{tree}
use Rattle.vx_strings.specs.StringCells.{strings_between, string_cell, may_be}
use Rattle.vx_strings.proofs.StringSteps.{grown_more, grown_strings, rows_more, flags_more}
use Rattle.vx_strings.proofs.read.strings_in.Goals as goal

pub loop-cell-preserved : goal.loop-cell-preserved
loop-cell-preserved c =
    let fine : may_be c.args.kind c.in-Some.string.now ≡ true = search (rules, c.in-Some.ensures.may_be) in
    let found : (if c.in-Some.flag then string_cell c.args.kind c.in-Some.string.now else null_cell) ≡ tree c.cell-item.result = search (rules, c.in-Some.ensures.found) in
    let more : strings_between c.push_string.new.bytes.items c.push_string.new.offsets.items ≡ strings_between c.loop-cell.bytes.items c.loop-cell.offsets.items ++ c.in-Some.string.now ∷ [] =
    grown_strings c.args.kind c.loop-cell.bytes.items c.loop-cell.offsets.items c.in-Some.string.now c.push_string.new.bytes.items c.push_string.new.offsets.items c.loop-cell.invariant.grown c.in_ok-push_string.ensures.bytes c.in_ok-push_string.ensures.offsets in
    let step : map tree (take (c.loop-cell.cell-index + 1) c.args.cells.now) ≡ map tree (take c.loop-cell.cell-index c.args.cells.now) ++ tree c.cell-item.result ∷ [] =
    map_more tree c.args.cells.now c.loop-cell.cell-index c.cell-item.result c.loop-cell-test.true ∙ ap (λ (x : Cell). map tree (take c.loop-cell.cell-index c.args.cells.now) ++ tree x ∷ []) (sym c.cell-item.is) in
    record {
      cells =
          rows_more c.args.kind c.loop-cell.bytes.items c.loop-cell.offsets.items c.push_string.new.bytes.items c.push_string.new.offsets.items c.in-Some.string.now c.loop-cell.valid.items _ c.in-Some.flag _ (tree c.cell-item.result) more c.in_ok-push-2.ensures.items c.loop-cell.invariant.flags found c.loop-cell.invariant.cells
          ∙ sym step;
      grown = grown_more c.args.kind c.loop-cell.bytes.items c.loop-cell.offsets.items c.in-Some.string.now c.push_string.new.bytes.items c.push_string.new.offsets.items c.loop-cell.invariant.grown fine c.in_ok-push_string.ensures.bytes c.in_ok-push_string.ensures.offsets;
      flags = flags_more c.loop-cell.bytes.items c.loop-cell.offsets.items c.push_string.new.bytes.items c.push_string.new.offsets.items c.in-Some.string.now c.loop-cell.valid.items _ c.in-Some.flag more c.in_ok-push-2.ensures.items c.loop-cell.invariant.flags;
    }
