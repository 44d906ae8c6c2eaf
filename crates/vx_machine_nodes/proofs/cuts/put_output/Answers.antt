use Rattle.std.proofs.Common.{◌≡◌, ◌+◌, ◌∷◌, ◌++◌, List, [], sym, ap, subst, ◌∙◌, arith}
use Rattle.std.specs.Prelude.{IfErr, OnOk}
use Rattle.std.specs.Arc.{arc_value}
use Rattle.std.proofs.lemmas.Result.{IfErr-weaker}
use Rattle.vx_path.specs.Path.{eof_path}
use Rattle.vx_model.specs.CellData.{CellData}
use Rattle.vx_react.specs.declared.place.Place.TheVariants.{Codes, Values}
use Rattle.vx_machine_turns.specs.Dict.{rest_eof}
use Rattle.vx_machine_nodes.specs.Runs.{behind, next_at, CutRefused}
use Rattle.vx_machine_node.specs.View.{coder_in, runs_in, todo_of}
use Rattle.vx_machine_nodes.proofs.RunSteps.{full_below, at_place, on_ok}
use Rattle.vx_machine_nodes.proofs.cuts.put_output.Goals as goal

pub returns-in-Codes-clause-runs : goal.returns-in-Codes-clause-runs
returns-in-Codes-clause-runs g c =
    at_place (λ x. OnOk c.put_codes.result ((ds : List CellData) → runs_in c.put_codes.new.runs ds ≡ behind (runs_in c.args.runs.now ds) x c.args.chunk)) c.args.place (Codes c.in-Codes.field-0) c.in-Codes.is
    (on_ok c.put_codes.result _ _ (λ h ds. h ds c.in-Codes.field-0) c.put_codes.ensures.runs)

pub returns-in-Codes-clause-todo : goal.returns-in-Codes-clause-todo
returns-in-Codes-clause-todo g c =
    at_place (λ x. OnOk c.put_codes.result ((ds : List CellData) → todo_of c.put_codes.new.todo.items ≡ todo_of c.args.todo.now.items ++ (next_at (coder_in (arc_value c.args.node.now)) (runs_in c.args.runs.now ds) x (eof_path c.args.below.now, c.args.chunk) ∷ [])))
    c.args.place (Codes c.in-Codes.field-0) c.in-Codes.is
    (on_ok c.put_codes.result _ _ (λ h ds. h ds c.in-Codes.field-0 ∙ ap (λ p. todo_of c.args.todo.now.items ++ (next_at (coder_in (arc_value c.args.node.now)) (runs_in c.args.runs.now ds) (Codes c.in-Codes.field-0) (p, c.args.chunk) ∷ [])) c.in-Ok.ensures.id) c.put_codes.ensures.todo)

pub returns-in-Codes-clause-refused : goal.returns-in-Codes-clause-refused
returns-in-Codes-clause-refused g c =
    at_place (λ x. IfErr c.put_codes.result (CutRefused (rest_eof (behind (runs_in c.args.runs.now []) x c.args.chunk)).last (c.args.below.now.last + 1))) c.args.place (Codes c.in-Codes.field-0) c.in-Codes.is
    (IfErr-weaker c.put_codes.result _ _ (λ e h. h c.in-Codes.field-0 (c.args.below.now.last + 1)) c.put_codes.ensures.refused)

pub returns-in-Values-clause-runs : goal.returns-in-Values-clause-runs
returns-in-Values-clause-runs g c =
    at_place (λ x. OnOk c.put_values.result ((ds : List CellData) → runs_in c.put_values.new.runs ds ≡ behind (runs_in c.args.runs.now ds) x c.args.chunk)) c.args.place (Values c.in-Values.field-0) c.in-Values.is
    (on_ok c.put_values.result _ _ (λ h ds. h ds c.in-Values.field-0) c.put_values.ensures.runs)

pub returns-in-Values-clause-todo : goal.returns-in-Values-clause-todo
returns-in-Values-clause-todo g c =
    at_place (λ x. OnOk c.put_values.result ((ds : List CellData) → todo_of c.put_values.new.todo.items ≡ todo_of c.args.todo.now.items ++ (next_at (coder_in (arc_value c.args.node.now)) (runs_in c.args.runs.now ds) x (eof_path c.args.below.now, c.args.chunk) ∷ [])))
    c.args.place (Values c.in-Values.field-0) c.in-Values.is
    (on_ok c.put_values.result _ _ (λ h ds. h (coder_in (arc_value c.args.node.now)) ds c.in-Values.field-0 ∙ ap (λ p. todo_of c.args.todo.now.items ++ (next_at (coder_in (arc_value c.args.node.now)) (runs_in c.args.runs.now ds) (Values c.in-Values.field-0) (p, c.args.chunk) ∷ [])) c.in-Ok.ensures.id) c.put_values.ensures.todo)

pub returns-in-Err-clause-refused : goal.returns-in-Err-clause-refused
returns-in-Err-clause-refused g c =
    subst (λ e. CutRefused (rest_eof (behind (runs_in c.args.runs.now []) c.args.place c.args.chunk)).last (c.args.below.now.last + 1) e) (sym c.into.ensures)
    (full_below c.args.below.now.last _ (c.args.below.now.last + 1) c.in-Err.error c.in-Err.ensures.full (omega arith))
