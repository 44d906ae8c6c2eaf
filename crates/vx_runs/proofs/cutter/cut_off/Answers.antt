use Rattle.std.proofs.Common.{rules, ◌≡◌, ℕ, ◌+◌, ◌<◌, ◌^◌, Bool, List, [], ◌∷◌, ◌++◌, map, length, ap, sym, ◌∙◌, subst}
use Rattle.std.proofs.lemmas.Result.{err_from_is_err_and}
use Rattle.vx_model.specs.Words.{all_by}
use Rattle.vx_model.specs.CellData.{CellData, fits}
use Rattle.vx_model.specs.ChunkData.{plain_piece}
use Rattle.vx_model.specs.TyView.{ty}
use Rattle.vx_column.specs.ColumnView.{column_cells}
use Rattle.vx_rules.specs.Runs.{stretches, codes_piece}
use Rattle.vx_react.specs.declared.place.Place.TheVariants.{Codes, Values}
use Rattle.vx_react.specs.Cutter.{cut_outputs, closed_outputs}
use Rattle.vx_strategy_options.specs.OptionViews.{dict_options}
use Rattle.vx_runs.specs.Cutting.{pairs, is_code_of}
use Rattle.vx_runs.proofs.Fitting.{cut_fits}
use Rattle.vx_runs.proofs.Cutters.{number_is, gives_open, gives_last}
use Rattle.vx_runs.proofs.cutter.cut_off.Goals as goal

pub returns-in_err-next-clause-refused : goal.returns-in_err-next-clause-refused
returns-in_err-next-clause-refused c =
    let p = err_from_is_err_and c.from_residual-in_err-next.result c.from_residual-in_err-next.ensures.1 in
    let count : c.len.result ≡ length c.in_ok-rows.rows.closed.items = search rules in
    let n = number_is c.args.run.number (c.args.run.number + c.len.result) c.in_ok-rows.rows.closed.items c.in_ok-rows.rows.codes.items c.in_ok-rows.rows.distinct _ c.in_ok-rows.ensures.cut (ap (λ (k : ℕ). c.args.run.number + k) count) in
    rw (p.1, p.2, ← n) c.in_err-next.ensures.refused

pub code_outputs-requires-clause-closed : goal.code_outputs-requires-clause-closed
code_outputs-requires-clause-closed c =
    (cut_fits (dict_options c.args.limits 0) (ty c.args.dtype.now) c.args.run.distinct c.args.run.cost (column_cells c.args.column.now) c.in_ok-rows.rows.closed.items c.in_ok-rows.rows.codes.items c.in_ok-rows.rows.distinct
    c.requires.standing c.requires.fit c.in_ok-rows.ensures.cut).closed

pub code_outputs-requires-clause-codes : goal.code_outputs-requires-clause-codes
code_outputs-requires-clause-codes c =
    ap (λ (ns : List ℕ). all_by (is_code_of (dict_options c.args.limits 0)) ns) c.deref.ensures.value
    ∙ (cut_fits (dict_options c.args.limits 0) (ty c.args.dtype.now) c.args.run.distinct c.args.run.cost (column_cells c.args.column.now) c.in_ok-rows.rows.closed.items c.in_ok-rows.rows.codes.items c.in_ok-rows.rows.distinct
    c.requires.standing c.requires.fit c.in_ok-rows.ensures.cut).codes

pub push_values-requires : goal.push_values-requires
push_values-requires c =
    ap (λ (cs : List CellData). all_by (fits (ty c.args.dtype.now)) cs) c.into_cells.ensures
    ∙ (cut_fits (dict_options c.args.limits 0) (ty c.args.dtype.now) c.args.run.distinct c.args.run.cost (column_cells c.args.column.now) c.in_ok-rows.rows.closed.items c.in_ok-rows.rows.codes.items c.in_ok-rows.rows.distinct
    c.requires.standing c.requires.fit c.in_ok-rows.ensures.cut).distinct

pub returns-then-last-clause-gives : goal.returns-then-last-clause-gives
returns-then-last-clause-gives c =
    let count : c.len.result ≡ length c.in_ok-rows.rows.closed.items = search rules in
    let next : c.in_ok-next.next ≡ c.args.run.number + length c.in_ok-rows.rows.closed.items = c.in_ok-next.ensures.ok ∙ ap (λ (k : ℕ). c.args.run.number + k) count in
    gives_last (dict_options c.args.limits 0) (ty c.args.dtype.now) c.args.run.number c.in_ok-next.next c.in_ok-rows.rows.closed.items c.in_ok-rows.rows.codes.items c.in_ok-rows.rows.distinct
    (stretches (dict_options c.args.limits 0) (ty c.args.dtype.now) c.args.run.distinct [] (column_cells c.args.column.now)) c.in_ok-outputs.outputs.items c.push_values.new.outputs.items c.in_ok-rows.ensures.cut next
    (λ more. c.in_ok-outputs.ensures more
    ∙ ap (λ (ns : List ℕ). closed_outputs (dict_options c.args.limits 0) (ty c.args.dtype.now) c.args.run.number (pairs c.in_ok-rows.rows.closed.items) ((Codes (c.args.run.number + length c.in_ok-rows.rows.closed.items), codes_piece (dict_options c.args.limits 0) ns) ∷ more)) c.deref.ensures.value)
    (c.in_ok-push_values.ensures ∙ ap (λ (cs : List CellData). c.in_ok-outputs.outputs.items ++ (Values c.in_ok-next.next, plain_piece (ty c.args.dtype.now) cs) ∷ []) c.into_cells.ensures)
    ∙ ap (λ (b : Bool). cut_outputs (dict_options c.args.limits 0) (ty c.args.dtype.now) c.args.run.number (stretches (dict_options c.args.limits 0) (ty c.args.dtype.now) c.args.run.distinct [] (column_cells c.args.column.now)) b) (sym c.if-last.true)

pub returns-then-last-clause-fits : goal.returns-then-last-clause-fits
returns-then-last-clause-fits c =
    let count : c.len.result ≡ length c.in_ok-rows.rows.closed.items = search rules in
    subst (λ (n : ℕ). n < 2 ^ 64)
    (number_is c.args.run.number c.in_ok-next.next c.in_ok-rows.rows.closed.items c.in_ok-rows.rows.codes.items c.in_ok-rows.rows.distinct _ c.in_ok-rows.ensures.cut (c.in_ok-next.ensures.ok ∙ ap (λ (k : ℕ). c.args.run.number + k) count))
    c.in_ok-next.ensures.fits

pub returns-clause-gives : goal.returns-clause-gives
returns-clause-gives c =
    gives_open (dict_options c.args.limits 0) (ty c.args.dtype.now) c.args.run.number c.in_ok-rows.rows.closed.items c.in_ok-rows.rows.codes.items c.in_ok-rows.rows.distinct
    (stretches (dict_options c.args.limits 0) (ty c.args.dtype.now) c.args.run.distinct [] (column_cells c.args.column.now)) c.in_ok-outputs.outputs.items c.in_ok-rows.ensures.cut
    (λ more. c.in_ok-outputs.ensures more
    ∙ ap (λ (ns : List ℕ). closed_outputs (dict_options c.args.limits 0) (ty c.args.dtype.now) c.args.run.number (pairs c.in_ok-rows.rows.closed.items) ((Codes (c.args.run.number + length c.in_ok-rows.rows.closed.items), codes_piece (dict_options c.args.limits 0) ns) ∷ more)) c.deref.ensures.value)
    ∙ ap (λ (b : Bool). cut_outputs (dict_options c.args.limits 0) (ty c.args.dtype.now) c.args.run.number (stretches (dict_options c.args.limits 0) (ty c.args.dtype.now) c.args.run.distinct [] (column_cells c.args.column.now)) b) (sym c.if-last.false)

pub returns-clause-number : goal.returns-clause-number
returns-clause-number c =
    let count : c.len.result ≡ length c.in_ok-rows.rows.closed.items = search rules in
    λ e. number_is c.args.run.number c.in_ok-next.next c.in_ok-rows.rows.closed.items c.in_ok-rows.rows.codes.items c.in_ok-rows.rows.distinct _ c.in_ok-rows.ensures.cut (c.in_ok-next.ensures.ok ∙ ap (λ (k : ℕ). c.args.run.number + k) count)

pub returns-clause-standing : goal.returns-clause-standing
returns-clause-standing c = record {
  dict = c.requires.standing.dict;
  fit = (cut_fits (dict_options c.args.limits 0) (ty c.args.dtype.now) c.args.run.distinct c.args.run.cost (column_cells c.args.column.now) c.in_ok-rows.rows.closed.items c.in_ok-rows.rows.codes.items c.in_ok-rows.rows.distinct
      c.requires.standing c.requires.fit c.in_ok-rows.ensures.cut).distinct;
  running = c.in_ok-rows.ensures.running;
}

pub returns-clause-fits : goal.returns-clause-fits
returns-clause-fits c =
    let count : c.len.result ≡ length c.in_ok-rows.rows.closed.items = search rules in
    subst (λ (n : ℕ). n < 2 ^ 64)
    (number_is c.args.run.number c.in_ok-next.next c.in_ok-rows.rows.closed.items c.in_ok-rows.rows.codes.items c.in_ok-rows.rows.distinct _ c.in_ok-rows.ensures.cut (c.in_ok-next.ensures.ok ∙ ap (λ (k : ℕ). c.args.run.number + k) count))
    c.in_ok-next.ensures.fits
