-- What a form's start refuses is the first fault of the open plan of nothing.
use Rattle.std.proofs.Common.{◌≡◌, ℕ, suc, Bool, true, false, ◌||◌, List, [], ◌∷◌, ◌++◌, Option, Some, None, refl, sym, ap, ap₂, ◌∙◌}
use Rattle.std.proofs.lemmas.Bool.{true≢false}
use Rattle.std.proofs.lemmas.List.{append-nil}
use Rattle.vx_model.specs.Ty.{Ty, Tys, no_fields, field}
use Rattle.vx_path.specs.Path.{Eof, inside, next, root_eof}
use Rattle.vx_aggregate_spec.specs.Aggregate.{Column}
use Rattle.vx_strategy_spec.specs.StrategyData.{ZonedOptions, Grouping, by_blocks, by_bytes, into_one}
use Rattle.vx_plan.specs.PlanData.{Setting, Node, Fault}
use Rattle.vx_plan.specs.ChunkedNode.{all_faults}
use Rattle.vx_plan.specs.GroupNode.{grouped_node}
use Rattle.vx_plan.specs.ColumnNodes.{marked, column_plans, struct_node, list_node}
use Rattle.vx_plan.specs.ZonedNode.{recorded, forbidden_faults, zone_faults, zoned_node}
use Rattle.vx_plan.specs.SourcePlan.{plan_nodes, first_what}
use Rattle.vx_plan.proofs.Relate.{Agree, relate, Both}
use Rattle.vx_machine_turns.specs.Forms.{Form, zoned_form, struct_form, list_form, grouped_form, forms_of, form_nodes}
use Rattle.vx_machine_turns.specs.Acts.{or_else}
use Rattle.vx_machine_turns.specs.Starts.{start_fault, start_faults}
use Rattle.vx_machine_turns.specs.Planned.{StartFaultsAgree}

-- of a node, at any eof path
record Starts (s : Setting) (k : Node) (f : Form) : Type 0 where
  same : (m : Bool) (e : Eof) → start_fault s f m ≡ first_what (k m [] false e).faults

first_append : (fs gs : List Fault) → first_what (fs ++ gs) ≡ or_else (first_what fs) (first_what gs)
first_append [] gs = refl
first_append (f ∷ fs) gs = refl

fields_start : (s : Setting) (fs : Tys) (ks : List Node) (ls : List Form) → Both (λ t k f. Starts s k f) fs ks ls → (m : Bool) (c : ℕ) (e : Eof) → start_faults s (forms_of ls) m ≡ first_what (all_faults (column_plans (marked m ks) c [] false e))
fields_start s no_fields [] [] h m c e = refl
fields_start s no_fields [] (l ∷ ls) h m c e = absurd h
fields_start s no_fields (k ∷ ks) ls h m c e = absurd h
fields_start s (field a t fs) [] ls h m c e = absurd h
fields_start s (field a t fs) (k ∷ ks) [] h m c e = absurd h
fields_start s (field a t fs) (k ∷ ks) (l ∷ ls) h m c e =
    ap₂ (λ x y. or_else x y) (h.0.same m (inside e)) (fields_start s fs ks ls h.1 m (suc c) (next e)) ∙ sym (first_append (k m [] false (inside e)).faults (all_faults (column_plans (marked m ks) (suc c) [] false (next e))))

struct_starts : (s : Setting) (fs : Tys) (n : Bool) (dup : Option (List ℕ)) (v : Node) (w : Form) (ks : List Node) (ls : List Form) → Starts s v w → Both (λ t k f. Starts s k f) fs ks ls → Starts s (struct_node fs n dup v ks) (struct_form fs n dup w (forms_of ls))
struct_starts s fs n (Some a) v w ks ls h r = record { same = λ m e. refl }
struct_starts s fs true None v w ks ls h r = record {
  same = λ m e.
      ap₂ (λ x y. or_else x y) (h.same m (inside e)) (fields_start s fs ks ls r (m || true) 1 (next e)) ∙ sym (first_append (v m [] false (inside e)).faults (all_faults (column_plans (marked (m || true) ks) 1 [] false (next e))));
}
struct_starts s fs false None v w ks ls h r = record { same = λ m e. fields_start s fs ks ls r (m || false) 0 e }

list_starts : (s : Setting) (t : Ty) (n : Bool) (e o v : Node) (f p w : Form) → Starts s e f → Starts s o p → Starts s v w → Starts s (list_node t n e o v) (list_form t n f p w)
list_starts s t n e o v f p w h i j = record { same = go n }
  where
    go : (n : Bool) (m : Bool) (x : Eof) → start_fault s (list_form t n f p w) m ≡ first_what (list_node t n e o v m [] false x).faults
    go true m x = ap₂ (λ a b. or_else a b) (h.same m (inside x)) (ap₂ (λ a b. or_else a b) (i.same m (inside (next x))) (j.same m (inside (next (next x)))))
        ∙ sym (first_append (e m [] false (inside x)).faults ((o m [] false (inside (next x))).faults ++ ((v m [] false (inside (next (next x)))).faults ++ []))
        ∙ ap (λ a. or_else (first_what (e m [] false (inside x)).faults) a) (first_append (o m [] false (inside (next x))).faults ((v m [] false (inside (next (next x)))).faults ++ [])
        ∙ ap (λ a. or_else (first_what (o m [] false (inside (next x))).faults) (first_what a)) (append-nil (v m [] false (inside (next (next x)))).faults)))
    go false m x = ap₂ (λ a b. or_else a b) (h.same m (inside x)) (ap (λ a. or_else a None) (i.same m (inside (next x))))
        ∙ sym (first_append (e m [] false (inside x)).faults ((o m [] false (inside (next x))).faults ++ [])
        ∙ ap (λ a. or_else (first_what (e m [] false (inside x)).faults) a) (first_append (o m [] false (inside (next x))).faults []))

zoned_starts : (s : Setting) (o : ZonedOptions) (t : Ty) (k : Node) (l : Form) (f : Ty → Node) (g : Ty → Form) → Starts s k l → Starts s (zoned_node s o t k f) (zoned_form o t l g)
zoned_starts s o t k l f g h = record { same = go }
  where
    none : (zone : ℕ) (cols : List Column) → zone_faults zone cols [] ≡ []
    none zone [] = refl
    none zone (a ∷ cols) = refl

    go : (m : Bool) (e : Eof) → start_fault s (zoned_form o t l g) m ≡ first_what (zoned_node s o t k f m [] false e).faults
    go true e = h.same true e
    go false e = ap (λ z. or_else (first_what (forbidden_faults s.allowed (recorded o t))) z) (h.same false (inside e))
        ∙ sym (first_append (forbidden_faults s.allowed (recorded o t)) (k false [] false (inside e)).faults)
        ∙ ap (λ z. first_what (z ++ (k false [] false (inside e)).faults)) (sym (append-nil (forbidden_faults s.allowed (recorded o t))) ∙ ap (λ z. forbidden_faults s.allowed (recorded o t) ++ z) (sym (none o.zone_len (recorded o t))))

grouped_starts : (s : Setting) (g : Grouping) (t : Ty) (k : Node) (l : Form) → Starts s k l → Starts s (grouped_node g t k) (grouped_form g t l)
grouped_starts s (by_blocks o) t k l h = record { same = λ m e. h.same m e }
grouped_starts s (by_bytes size) t k l h = record { same = λ m e. h.same m e }
grouped_starts s into_one t k l h = record { same = λ m e. h.same m e }

all_start : (s : Setting) → Agree Node Form (plan_nodes s) form_nodes false (λ t k f. Starts s k f)
all_start s = record {
  at_flat = λ o t. record { same = λ m e. refl };
  at_chunked = λ t k l h. record { same = λ m e. refl };
  at_grouped = λ g r t k l h. grouped_starts s g t k l h;
  at_compressed = λ which room r t k l h. record { same = λ m e. h.same m e };
  at_dict = λ o t is c v f d w g h i j. record { same = λ m e. refl };
  at_zoned = λ o r t k l f g h i. zoned_starts s o t k l f g h;
  at_not_struct = λ t. record { same = λ m e. refl };
  at_struct = λ fs n dup v w ks ls h r. struct_starts s fs n dup v w ks ls h r;
  at_list = λ t n e o v f p w h i j. list_starts s t n e o v f p w h i j;
}

pub start_faults_agree : StartFaultsAgree
start_faults_agree s w t m = (relate Node Form (plan_nodes s) form_nodes false (λ t k f. Starts s k f) (all_start s) w (λ e. absurd (true≢false (sym e))) t).same m root_eof
