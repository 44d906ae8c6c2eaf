-- Each column's worker is given the column's chunks.
use Rattle.std.proofs.Common.{◌≡◌, ℕ, zero, suc, Bool, true, false, List, [], ◌∷◌, ◌++◌, map, length, Option, Some, IsTrue, append_assoc, refl, sym, ap, subst, ◌∙◌, arith}
use Rattle.std.specs.Prelude.{nat_lt, ◌-◌, ◌^◌}
use Rattle.std.proofs.lemmas.Bool.{true≢false, and_parts}
use Rattle.std.proofs.lemmas.List.{append-nil}
use Rattle.vx_model.specs.Words.{tail}
use Rattle.vx_model.specs.Ty.{Ty, Tys, boolean, primitive, utf8, binary, list, struct, extension}
use Rattle.vx_model.specs.ChunkData.{ChunkData}
use Rattle.vx_model.specs.declared.encoding.EncodingId.{EncodingId}
use Rattle.vx_model.specs.TyView.{ty}
use Rattle.std.specs.Global.{Vec}
use Rattle.vx_chunk.specs.declared.node.Chunk.{Chunk}
use Rattle.vx_chunk.specs.ChunkView.{piece}
use Rattle.vx_fault.specs.Fails.{fails_at}
use Rattle.vx_rules.specs.Flushes.{chunk_pieces}
use Rattle.vx_rules.specs.Columns.{Split, struct_splits, column, head_piece}
use Rattle.vx_react.specs.Statements.{columns_after}
use Rattle.vx_plan.specs.SourcePlan.{batch_items}
use Rattle.vx_plan.specs.Valid.{OfSchema}
use Rattle.vx_strategy_spec.specs.StrategyData.{StrategyData, StrategyList, structured}
use Rattle.vx_column_ways.specs.ColumnCount.{columns_of}
use Rattle.vx_sink.specs.declared.list_source.ListSource.{ListSource}
use Rattle.vx_column_plan.specs.Columns.{Column}
use Rattle.vx_own_plans.specs.OwnPlans.{column_chunks}
use Rattle.vx_column_ways.specs.Ways.{column_of, columns_in}
use Rattle.vx_column_ways.specs.declared.ways.ColumnWay.{ColumnWay}
use Rattle.vx_column_batches.specs.Beside.{columns_of as split_of, chunks_beside}
use Rattle.vx_column_streams.proofs.StreamLaws.{rows_of, behind, rows_behind, batch_rows}
use Rattle.vx_column_inputs.specs.declared.inputs.Input.{Input}
use Rattle.vx_column_inputs.specs.Prepared.{IsInput, AreInputs, AreOwnInputs, FitColumns}
use Rattle.vx_column_inputs.proofs.Widths.{none_some, columns_counted}

-- ---- a column's chunks

pieces_of_column : (c : ℕ) (xs : List Split) → chunk_pieces (column c xs) ≡ map head_piece (rows_of xs)
pieces_of_column c [] = refl
pieces_of_column c (x ∷ xs) = ap (λ ps. head_piece x.1 ∷ ps) (pieces_of_column c xs)

chunks_are : (k : ℕ) (fs : Tys) (n : Bool) (bs : List ChunkData) → column_chunks k fs n bs ≡ map head_piece (behind k (map (split_of (struct fs n)) bs))
chunks_are k fs n bs =
    pieces_of_column k (columns_after k (struct_splits fs n (batch_items 0 bs)))
    ∙ ap (map head_piece) (rows_behind k (struct_splits fs n (batch_items 0 bs)) ∙ ap (behind k) (batch_rows fs n 0 bs))

behind_next : (k : ℕ) (rows : List (List ChunkData)) → behind k (map tail rows) ≡ map tail (behind k rows)
behind_next zero rows = refl
behind_next (suc k) rows = behind_next k (map tail rows)

module _ (ids : List EncodingId) (allowed : Option (List (List ℕ))) (kind : ListSource → Ty) (may_fail : ListSource → ℕ → Type 0) (to_come : ListSource → Option (List ChunkData)) (left : ListSource → ℕ) where
  given_from : (fs : Tys) (n : Bool) (bs : List ChunkData) (k w : ℕ) (cs : List Column) (is : List Input) → length cs ≡ w
      → AreOwnInputs ids allowed kind may_fail to_come left cs (chunks_beside w (behind k (map (split_of (struct fs n)) bs))) is
      → AreInputs ids allowed kind may_fail to_come left (struct fs n) bs k cs is
  given_from fs n bs k zero [] [] e h = tt
  given_from fs n bs k zero [] (i ∷ is) e h = absurd h
  given_from fs n bs k zero (c ∷ cs) is e h = absurd (omega (arith, e))
  given_from fs n bs k (suc w) [] is e h = absurd (omega (arith, e))
  given_from fs n bs k (suc w) (c ∷ cs) [] e h = absurd h
  given_from fs n bs k (suc w) (c ∷ cs) (i ∷ is) e h = (
    subst (λ ps. IsInput ids allowed c ps i (kind i.source) (may_fail i.source) (to_come i.source) (left i.source)) (sym (chunks_are k fs n bs)) h.0,
    given_from fs n bs (suc k) w cs is (omega (arith, e))
        (subst (λ rows. AreOwnInputs ids allowed kind may_fail to_come left cs (chunks_beside w rows) is) (sym (behind_next k (map (split_of (struct fs n)) bs))) h.1),
  )

  given : (t : Ty) (k : ℕ) (bs : List ChunkData) (cs : List Column) (is : List Input) → columns_of t ≡ Some k → length cs ≡ k → AreOwnInputs ids allowed kind may_fail to_come left cs (chunks_beside k (map (split_of t) bs)) is
      → AreInputs ids allowed kind may_fail to_come left t bs 0 cs is
  given (struct fs n) k bs cs is c e h = given_from fs n bs 0 k cs is e h
  given (boolean n) k bs cs is c e h = absurd (none_some k c)
  given (primitive p n) k bs cs is c e h = absurd (none_some k c)
  given (utf8 n) k bs cs is c e h = absurd (none_some k c)
  given (binary n) k bs cs is c e h = absurd (none_some k c)
  given (list u n) k bs cs is c e h = absurd (none_some k c)
  given (extension tag u) k bs cs is c e h = absurd (none_some k c)

  -- the inputs of a struct's columns, of the ways and of the split
  pub inputs_made : (v d : StrategyData) (ws : StrategyList) (t : Ty) (m : Bool) (k : ℕ) (bs : List ChunkData) (cs : List Column) (ps : List (List ChunkData)) (is : List Input) → columns_of t ≡ Some k
      → cs ≡ columns_in (structured v d ws) t m → ps ≡ chunks_beside k (map (split_of t) bs) → AreOwnInputs ids allowed kind may_fail to_come left cs ps is
      → AreInputs ids allowed kind may_fail to_come left t bs 0 (columns_in (structured v d ws) t m) is
  inputs_made v d ws t m k bs cs ps is c e f h =
      given t k bs (columns_in (structured v d ws) t m) is c (columns_counted v d ws t m k c)
      (subst (λ z. AreOwnInputs ids allowed kind may_fail to_come left z (chunks_beside k (map (split_of t) bs)) is) e (subst (λ z. AreOwnInputs ids allowed kind may_fail to_come left cs z is) f h))

  inputs_counted : (t : Ty) (bs : List ChunkData) (k : ℕ) (cs : List Column) (is : List Input) → AreInputs ids allowed kind may_fail to_come left t bs k cs is → length is ≡ length cs
  inputs_counted t bs k [] [] h = refl
  inputs_counted t bs k [] (i ∷ is) h = absurd h
  inputs_counted t bs k (c ∷ cs) [] h = absurd h
  inputs_counted t bs k (c ∷ cs) (i ∷ is) h = ap suc (inputs_counted t bs (suc k) cs is h.1)

  -- as many as the type has columns
  pub inputs_many : (v d : StrategyData) (ws : StrategyList) (t : Ty) (m : Bool) (n : ℕ) (bs : List ChunkData) (is : List Input) → columns_of t ≡ Some n
      → AreInputs ids allowed kind may_fail to_come left t bs 0 (columns_in (structured v d ws) t m) is → length is ≡ n
  inputs_many v d ws t m n bs is c h = inputs_counted t bs 0 (columns_in (structured v d ws) t m) is h ∙ columns_counted v d ws t m n c

-- ---- column by column

-- the next way and the next chunks
pub fit_next : (m : Bool) (ways ws : List ColumnWay) (split vs : List (Vec Chunk)) (w : ColumnWay) (v : Vec Chunk) → ways ≡ w ∷ ws → split ≡ v ∷ vs
    → FitColumns m (map column_of ways) (map (λ x. x.items) split) → OfSchema (ty w.dtype) v.items × (m ≡ true → w.marked ≡ true) × FitColumns m (map column_of ws) (map (λ x. x.items) vs)
fit_next m ways ws split vs w v e f h =
    subst (λ (ys : List (Vec Chunk)). FitColumns m (column_of w ∷ map column_of ws) (map (λ x. x.items) ys)) f (subst (λ (xs : List ColumnWay). FitColumns m (map column_of xs) (map (λ x. x.items) split)) e h)

-- there is a way for the next chunks
pub fit_some : (m : Bool) (ways : List ColumnWay) (split vs : List (Vec Chunk)) (v : Vec Chunk) → length ways ≡ 0 → split ≡ v ∷ vs → FitColumns m (map column_of ways) (map (λ x. x.items) split) → ⊥
fit_some m [] split vs v z f h = subst (λ (ys : List (Vec Chunk)). FitColumns m [] (map (λ x. x.items) ys)) f h
fit_some m (w ∷ ways) split vs v z f h = absurd (omega (arith, z))

module _ (ids : List EncodingId) (allowed : Option (List (List ℕ))) (kind : ListSource → Ty) (may_fail : ListSource → ℕ → Type 0) (to_come : ListSource → Option (List ChunkData)) (left : ListSource → ℕ) where
  -- what is left to do, of which the first is done
  pub made_next : (ways ws : List ColumnWay) (split vs : List (Vec Chunk)) (w : ColumnWay) (v : Vec Chunk) (cs : List Column) (ps : List (List ChunkData)) (done : List Input) (i : Input) → ways ≡ w ∷ ws → split ≡ v ∷ vs
      → IsInput ids allowed (column_of w) v.items i (kind i.source) (may_fail i.source) (to_come i.source) (left i.source)
      → ((is : List Input) → AreOwnInputs ids allowed kind may_fail to_come left (map column_of ways) (map (λ x. x.items) split) is → AreOwnInputs ids allowed kind may_fail to_come left cs ps (done ++ is))
      → (is : List Input) → AreOwnInputs ids allowed kind may_fail to_come left (map column_of ws) (map (λ x. x.items) vs) is → AreOwnInputs ids allowed kind may_fail to_come left cs ps ((done ++ (i ∷ [])) ++ is)
  made_next ways ws split vs w v cs ps done i e f x g is h =
      subst (AreOwnInputs ids allowed kind may_fail to_come left cs ps) (sym (append_assoc done (i ∷ []) is)) (g (i ∷ is)
      (subst (λ (xs : List ColumnWay). AreOwnInputs ids allowed kind may_fail to_come left (map column_of xs) (map (λ x. x.items) split) (i ∷ is)) (sym e)
      (subst (λ (ys : List (Vec Chunk)). AreOwnInputs ids allowed kind may_fail to_come left (column_of w ∷ map column_of ws) (map (λ x. x.items) ys) (i ∷ is)) (sym f) (x, h))))

  -- nothing is left to do
  pub made_all : (m : Bool) (ways : List ColumnWay) (split : List (Vec Chunk)) (cs : List Column) (ps : List (List ChunkData)) (done : List Input) → length split ≡ 0 → FitColumns m (map column_of ways) (map (λ x. x.items) split)
      → ((is : List Input) → AreOwnInputs ids allowed kind may_fail to_come left (map column_of ways) (map (λ x. x.items) split) is → AreOwnInputs ids allowed kind may_fail to_come left cs ps (done ++ is))
      → AreOwnInputs ids allowed kind may_fail to_come left cs ps done
  made_all m [] [] cs ps done z h g = subst (AreOwnInputs ids allowed kind may_fail to_come left cs ps) (append-nil done) (g [] tt)
  made_all m (w ∷ ways) [] cs ps done z h g = absurd h
  made_all m ways (v ∷ split) cs ps done z h g = absurd (omega (arith, z))

-- ---- a column's source and its context

pub never : (k : ℕ) → IsTrue (fails_at [] k) → ⊥
never k h = true≢false (sym (and_parts (nat_lt k (2 ^ 64 - 1)) false h).1)

pub same_pieces : (ps : List ChunkData) → map piece ps ≡ ps
same_pieces [] = refl
same_pieces (p ∷ ps) = ap (λ z. p ∷ z) (same_pieces ps)

pub mark_stays : (above mark : Bool) → (above ≡ true → mark ≡ true) → mark ≡ false → above ≡ mark
mark_stays true mark h e = sym (h refl)
mark_stays false mark h e = sym e
