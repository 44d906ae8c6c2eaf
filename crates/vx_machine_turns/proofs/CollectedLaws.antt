-- A collecting node's task and its child are the child's plan on the one chunk of all.
use Rattle.std.proofs.Common.{◌≡◌, ℕ, ◌+◌, Bool, true, false, List, [], ◌∷◌, ◌++◌, Option, Some, None, refl, sym, ap, ◌∙◌, subst, append_assoc}
use Rattle.std.proofs.lemmas.List.{append-nil}
use Rattle.vx_model.specs.Ty.{Ty}
use Rattle.vx_model.specs.ChunkData.{ChunkData}
use Rattle.vx_path.specs.Lists.{In}
use Rattle.vx_path.proofs.Lists.{in_left}
use Rattle.vx_path.specs.Path.{Eof, under}
use Rattle.vx_rules.specs.Flushes.{collected, concatenated, last_path, chunk_pieces}
use Rattle.vx_strategy_spec.specs.StrategyData.{into_one}
use Rattle.vx_plan.specs.PlanData.{Setting, Item, Node, rows_in, totals, row_totals}
use Rattle.vx_plan.specs.GroupNode.{grouped_stream, grouped_node}
use Rattle.vx_machine_turns.specs.Forms.{Form, grouped_form, form_type}
use Rattle.vx_machine_turns.specs.Locals.{GroupedNode, collect_local}
use Rattle.vx_machine_turns.specs.Acts.{Act, gifts, shut, births, wrote, first_refusal, shape_in, numbers_in, indices_in, raised_in, lowered_in, passes}
use Rattle.vx_machine_turns.specs.Collected.{collected_so_far}
use Rattle.vx_machine_turns.specs.Scripts.{script}
use Rattle.vx_machine_turns.specs.Fuels.{Fuel, spent, fuel, Enough}
use Rattle.vx_machine_turns.specs.Duties.{duty_of}
use Rattle.vx_machine_turns.specs.Planned.{Meets, Fair}
use Rattle.vx_machine_turns.proofs.DutyLaws.{pass, zero_more}

-- the one chunk of those so far and of the items to come
abbrev one_of : Ty → Option (List ℕ × List ChunkData) → List Item → Bool → List Item
one_of t x items false = []
one_of t None [] true = []
one_of t None (i ∷ is) true = (last_path i.0 is, concatenated t (i.1 ∷ chunk_pieces is)) ∷ []
one_of t (Some x) items true = (last_path x.0 items, concatenated t (x.1 ++ chunk_pieces items)) ∷ []

record Facts (t : Ty) (acts : List Act) (x : Option (List ℕ × List ChunkData)) (rows : ℕ) (items : List Item) (ended : Bool) : Type 0 where
  born : births acts ≡ []
  given : gifts 0 acts ≡ one_of t x items ended
  closes : shut 0 acts ≡ ended
  silent : wrote acts ≡ []
  calm : first_refusal acts ≡ []
  shape : ended ≡ true → shape_in acts ≡ Some passes
  numbers : numbers_in acts ≡ totals rows_in rows items
  indices : indices_in acts ≡ []
  raises : raised_in acts ≡ 0
  lowers : lowered_in acts ≡ 0

same : (t : Ty) (x : Option (List ℕ × List ChunkData)) (i : Item) (is : List Item) (b : Bool) → one_of t (Some (i.0, collected_so_far x ++ (i.1 ∷ []))) is b ≡ one_of t x (i ∷ is) b
same t None i is true = refl
same t None i is false = refl
same t (Some x) i is false = refl
same t (Some x) i is true = ap (λ z. (last_path i.0 is, concatenated t z) ∷ []) (append_assoc x.1 (i.1 ∷ []) (chunk_pieces is))

module _ (s : Setting) (n : GroupedNode) where
  facts : (items : List Item) (x : Option (List ℕ × List ChunkData)) (rows : ℕ) (ended : Bool) → Facts n.type (script s (collect_local n x rows) items ended) x rows items ended
  facts [] x rows false = record { born = refl; given = refl; closes = refl; silent = refl; calm = refl; shape = λ q. cc; numbers = refl; indices = refl; raises = refl; lowers = refl }
  facts [] None rows true = record { born = refl; given = refl; closes = refl; silent = refl; calm = refl; shape = λ q. refl; numbers = refl; indices = refl; raises = refl; lowers = refl }
  facts [] (Some x) rows true = record {
    born = refl;
    given = ap (λ z. (x.0, concatenated n.type z) ∷ []) (sym (append-nil x.1));
    closes = refl;
    silent = refl;
    calm = refl;
    shape = λ q. refl;
    numbers = refl;
    indices = refl;
    raises = refl;
    lowers = refl;
  }
  facts (i ∷ is) x rows ended =
      let a = facts is (Some (i.0, collected_so_far x ++ (i.1 ∷ []))) (rows + rows_in i.1) ended in
      record {
        born = a.born;
        given = a.given ∙ same n.type x i is ended;
        closes = a.closes;
        silent = a.silent;
        calm = a.calm;
        shape = a.shape;
        numbers = ap (λ z. (rows + rows_in i.1) ∷ z) a.numbers;
        indices = a.indices;
        raises = zero_more a.raises;
        lowers = zero_more a.lowers;
      }

is_collected : (t : Ty) (items : List Item) (ended : Bool) → one_of t None items ended ≡ collected t items ended
is_collected t [] true = refl
is_collected t [] false = refl
is_collected t (i ∷ is) true = refl
is_collected t (i ∷ is) false = refl

-- the child's stream
pub collect_stream : (s : Setting) (n : GroupedNode) (items : List Item) (ended : Bool)
    → (births (script s (collect_local n None 0) items ended) ≡ []) × (gifts 0 (script s (collect_local n None 0) items ended) ≡ collected n.type items ended) × (shut 0 (script s (collect_local n None 0) items ended) ≡ ended)
collect_stream s n items ended = let a = facts s n items None 0 ended in (a.born, a.given ∙ is_collected n.type items ended, a.closes)

pub collected_fair : (s : Setting) (t : Ty) (k : Node) (f : Form) → Fair s k f → Fair s (grouped_node into_one t k) (grouped_form into_one t f)
collected_fair s t k f h = record { fair = go }
  where
    go : (m : Bool) (name : List ℕ) (items : List Item) (ended : Bool) (e : Eof) (d : Fuel) → Enough d (grouped_form into_one t f)
        → Meets s d (duty_of s (grouped_form into_one t f) m name items ended e) (grouped_node into_one t k m items ended e)
    go m name items ended e spent enough = absurd enough
    go m name items ended e (fuel g) enough =
        let n : GroupedNode = record { name = name; mark = m; type = t; child = f; eof = e } in
        let a = facts s n items None 0 ended in
        pass s g (duty_of s (grouped_form into_one t f) m name items ended e) (duty_of s f m (under name 0) (grouped_stream into_one t items ended) ended e) (grouped_node into_one t k m items ended e)
        (k m (grouped_stream into_one t items ended) ended e) (row_totals items ++ [])
        (record {
          first = refl;
          born = a.born;
          given = a.given ∙ is_collected t items ended;
          closes = a.closes;
          silent = a.silent;
          calm = a.calm;
          shape = a.shape;
          counts = λ y i. in_left y (row_totals items) [] (subst (λ z. In y z) a.numbers i);
          moves = λ y i. absurd (subst (λ z. In y z) a.indices i);
          places = λ y i. absurd i;
          lowers = λ q. a.lowers ∙ sym a.raises;
          start = refl;
          ends = λ x. x;
        })
        (h.fair m (under name 0) (grouped_stream into_one t items ended) ended e (g (form_type f)) enough) refl refl refl
        (ap (λ z. z + (k m (grouped_stream into_one t items ended) ended e).reserved) (sym a.raises)) refl
