-- By one induction over the walk: all tasks of a strategy are good.
use Rattle.std.proofs.Common.{◌≡◌, ℕ, Bool, true, false, ◌||◌, List, [], ◌∷◌, Option, Some, None, refl, sym}
use Rattle.std.proofs.lemmas.Bool.{true≢false}
use Rattle.vx_model.specs.Ty.{Ty, Tys, no_fields, field}
use Rattle.vx_path.specs.Path.{Before}
use Rattle.vx_strategy_spec.specs.StrategyData.{Grouping, by_blocks, by_bytes, into_one}
use Rattle.vx_rules.specs.Columns.{struct_splits, list_splits}
use Rattle.vx_plan.specs.PlanData.{Setting, Item, places}
use Rattle.vx_plan.proofs.Relate.{Agree, relate, Both}
use Rattle.vx_machine_turns.specs.Forms.{Form, grouped_form, struct_form, list_form, forms_of, form_nodes, form_type}
use Rattle.vx_machine_turns.specs.Starts.{marked_forms, struct_columns_of, list_columns_of}
use Rattle.vx_machine_turns.specs.Fuels.{Fuel, spent, fuel, Enough, AllEnough}
use Rattle.vx_machine_turns.specs.Paths.{TasksAreGood}
use Rattle.vx_machine_turns.proofs.StructLaws.{struct_streams}
use Rattle.vx_machine_turns.proofs.ListLaws.{list_streams}
use Rattle.vx_machine_turns.proofs.DutyLaws.{cons_nil}
use Rattle.vx_machine_turns.proofs.GoodNodes.{IsGood, IsGoodAt, WritersGood, beside_good, chunked_good, struct_paths, list_paths}
use Rattle.vx_machine_turns.proofs.GoodDict.{dict_good}
use Rattle.vx_machine_turns.proofs.GoodLeaves.{flat_good, no_struct_good, repeated_good, empty_list_good}
use Rattle.vx_machine_turns.proofs.GoodMore.{blocks_good, bytes_good, collect_good, compressed_good}
use Rattle.vx_machine_turns.proofs.GoodZoned.{zoned_good}

grouped_good : (s : Setting) (g : Grouping) (t : Ty) (k : Form) → IsGood s k → IsGood s (grouped_form g t k)
grouped_good s (by_blocks o) t k h = blocks_good s o t k h
grouped_good s (by_bytes size) t k h = bytes_good s size t k h
grouped_good s into_one t k h = collect_good s t k h

-- ---- columns

fields_good : (s : Setting) (g : Ty → Fuel) (fs : Tys) (ks ls : List Form) → Both (λ t k f. IsGood s f) fs ks ls → AllEnough g (forms_of ls) → (m : Bool) → WritersGood s g (marked_forms m (forms_of ls))
fields_good s g no_fields [] [] h enough m = tt
fields_good s g no_fields [] (l ∷ ls) h enough m = absurd h
fields_good s g no_fields (k ∷ ks) ls h enough m = absurd h
fields_good s g (field a t fs) [] ls h enough m = absurd h
fields_good s g (field a t fs) (k ∷ ks) [] h enough m = absurd h
fields_good s g (field a t fs) (k ∷ ks) (l ∷ ls) h enough m = ((h.0, enough.0), fields_good s g fs ks ls h.1 enough.1 m)

struct_writers_good : (s : Setting) (g : Ty → Fuel) (fs : Tys) (n m : Bool) (v : Form) (ks ls : List Form) → IsGood s v → Enough (g (form_type v)) v → Both (λ t k f. IsGood s f) fs ks ls → AllEnough g (forms_of ls) → WritersGood s g (struct_columns_of n m v (forms_of ls))
struct_writers_good s g fs true m v ks ls h e r q = ((h, e), fields_good s g fs ks ls r q (m || true))
struct_writers_good s g fs false m v ks ls h e r q = fields_good s g fs ks ls r q (m || false)

struct_good : (s : Setting) (fs : Tys) (n : Bool) (dup : Option (List ℕ)) (v : Form) (ks ls : List Form) → IsGood s v → Both (λ t k f. IsGood s f) fs ks ls → IsGood s (struct_form fs n dup v (forms_of ls))
struct_good s fs n (Some a) v ks ls h r m name items ended e d enough b = repeated_good s fs n a v (forms_of ls) m name items ended e d enough b
struct_good s fs n None v ks ls h r m name items ended e spent enough b = absurd enough
struct_good s fs n None v ks ls h r m name items ended e (fuel g) enough b =
    let q = struct_streams s fs n m v (forms_of ls) name items ended e in
    beside_good s (struct_form fs n None v (forms_of ls)) m name items ended e g (struct_columns_of n m v (forms_of ls)) (struct_splits fs n items) tt tt refl (struct_paths items fs n) q.0 q.1
    (struct_writers_good s g fs n m v ks ls h enough.0 r enough.1) b

list_writers_good : (s : Setting) (g : Ty → Fuel) (n m : Bool) (a b c : Form) → IsGood s a → IsGood s b → IsGood s c → Enough (g (form_type a)) a → Enough (g (form_type b)) b → Enough (g (form_type c)) c → WritersGood s g (list_columns_of n m a b c)
list_writers_good s g true m a b c h i j x y z = ((h, x), ((i, y), ((j, z), tt)))
list_writers_good s g false m a b c h i j x y z = ((h, x), ((i, y), tt))

list_good : (s : Setting) (t : Ty) (n : Bool) (a b c : Form) → IsGood s a → IsGood s b → IsGood s c → IsGood s (list_form t n a b c)
list_good s t n a b c h i j m name items ended e spent enough before = absurd enough
list_good s t n a b c h i j m name items ended e (fuel g) enough before = go items ended before
  where
    columns : (items : List Item) (ended : Bool) → Before (places items) e → (items ≡ [] → ended ≡ true → ⊥) → IsGoodAt s (list_form t n a b c) m name items ended e (fuel g)
    columns items ended before begun =
        let q = list_streams s t n m a b c name items ended e begun in
        beside_good s (list_form t n a b c) m name items ended e g (list_columns_of n m a b c) (list_splits t n true 0 items) tt tt refl (list_paths items t n true 0) q.0 q.1
        (list_writers_good s g n m a b c h i j enough.0 enough.1 enough.2) before

    go : (items : List Item) (ended : Bool) → Before (places items) e → IsGoodAt s (list_form t n a b c) m name items ended e (fuel g)
    go [] true before = empty_list_good s t n m a b c name e g (list_writers_good s g n m a b c h i j enough.0 enough.1 enough.2)
    go [] false before = columns [] false before (λ q r. absurd (true≢false (sym r)))
    go (x ∷ xs) ended before = columns (x ∷ xs) ended before (λ q r. absurd (cons_nil x xs q))

all_good : (s : Setting) → Agree Form Form form_nodes form_nodes false (λ t k f. IsGood s f)
all_good s = record {
  at_flat = λ o t. flat_good s o t;
  at_chunked = λ t k l h. chunked_good s t l h;
  at_grouped = λ g r t k l h. grouped_good s g t l h;
  at_compressed = λ which room r t k l h. compressed_good s which room t l h;
  at_dict = λ o t is c v f d w g h i j. dict_good s o t d w g h i j;
  at_zoned = λ o r t k l f g h i. zoned_good s o t l g h i;
  at_not_struct = λ t. no_struct_good s t;
  at_struct = λ fs n dup v w ks ls h r. struct_good s fs n dup w ks ls h r;
  at_list = λ t n e o v f p w h i j. list_good s t n f p w h i j;
}

pub tasks_are_good : TasksAreGood
tasks_are_good s w t = relate Form Form form_nodes form_nodes false (λ t k f. IsGood s f) (all_good s) w (λ e. absurd (true≢false (sym e))) t
