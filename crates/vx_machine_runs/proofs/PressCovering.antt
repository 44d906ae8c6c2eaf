-- Each number of the plan of a compressing node is at most one that its tasks count: it is one of its child's.
use Rattle.std.proofs.Common.{ℕ, Bool, List, ap, ◌∷◌, []}
use Rattle.vx_model.specs.Ty.{Ty}
use Rattle.vx_path.specs.Lists.{In}
use Rattle.vx_path.specs.Path.{Eof, under}
use Rattle.vx_plan.specs.PlanData.{Setting, Item, Node}
use Rattle.vx_plan.specs.GroupNode.{images, compressed_node}
use Rattle.vx_machine_turns.specs.Forms.{Form, compressed_form, form_type}
use Rattle.vx_machine_turns.specs.Locals.{CompressedNode}
use Rattle.vx_machine_turns.specs.Fuels.{Fuel, spent, fuel, Enough, Through}
use Rattle.vx_machine_turns.specs.Duties.{Duty, duty_of}
use Rattle.vx_machine_turns.specs.Planned.{AtMost}
use Rattle.vx_machine_turns.proofs.CompressedLaws.{node_facts, outlet_facts, outlet_duty}
use Rattle.vx_machine_runs.proofs.Covers.{all_counted, Covers}
use Rattle.vx_machine_runs.proofs.GroupCovering.{pass_covers}

pub compressed_covers : (s : Setting) (which room : ℕ) (t : Ty) (k : Node) (f : Form) → Covers s k f → Covers s (compressed_node s which room t k) (compressed_form which room t f)
compressed_covers s which room t k f h = record { covers = go }
  where
    node : Bool → List ℕ → Eof → CompressedNode
    node m name e = record { name = name; mark = m; which = which; room = room; child = f; eof = e }

    out : (m : Bool) (name : List ℕ) (items : List Item) (ended : Bool) (e : Eof) (d : Fuel) → Through (λ x. Enough x f) (form_type f) d → (n : ℕ) → In n (k m items ended e).numbers
        → AtMost n (e.last ∷ all_counted s d (outlet_duty s (node m name e) items ended))
    out m name items ended e spent enough n i = absurd enough
    out m name items ended e (fuel g) enough n i =
        let a = outlet_facts s (node m name e) items ended in
        let kid : Duty = duty_of s f m (under name 1) items ended e in
        pass_covers s g (outlet_duty s (node m name e) items ended) kid [] (k m items ended e) e.last (ap (λ z. kid.seed ∷ z) a.born) (a.given, a.closes, tt) (λ y j. absurd j)
        (λ y j. h.covers m (under name 1) items ended e (g (form_type f)) enough y j) n i

    go : (m : Bool) (name : List ℕ) (items : List Item) (ended : Bool) (e : Eof) (d : Fuel) → Enough d (compressed_form which room t f) → (n : ℕ) → In n (compressed_node s which room t k m items ended e).numbers
        → AtMost n (e.last ∷ all_counted s d (duty_of s (compressed_form which room t f) m name items ended e))
    go m name items ended e spent enough n i = absurd enough
    go m name items ended e (fuel g) enough n i =
        let a = node_facts s (node m name e) items ended in
        let kid : Duty = outlet_duty s (node m name e) (images s which items) ended in
        pass_covers s g (duty_of s (compressed_form which room t f) m name items ended e) kid [] (k m (images s which items) ended e) e.last (ap (λ z. kid.seed ∷ z) a.born) (a.given, a.closes, tt) (λ y j. absurd j)
        (λ y j. out m name (images s which items) ended e (g (form_type f)) enough y j) n i
