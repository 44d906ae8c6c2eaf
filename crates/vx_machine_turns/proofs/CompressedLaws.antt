-- A compressing node, the outlet below it and its child are the child's plan on the images.
use Rattle.std.proofs.Common.{◌≡◌, ℕ, Bool, true, false, List, [], ◌∷◌, Some, refl, sym, ap, ◌∙◌, subst}
use Rattle.vx_model.specs.Ty.{Ty}
use Rattle.vx_path.specs.Lists.{In}
use Rattle.vx_path.specs.Path.{Eof, under}
use Rattle.vx_plan.specs.PlanData.{Setting, Item, Node}
use Rattle.vx_plan.specs.GroupNode.{images, compressed_node}
use Rattle.vx_machine_turns.specs.Forms.{Form, compressed_form, form_type}
use Rattle.vx_machine_turns.specs.Locals.{CompressedNode, compressed_local, outlet_local}
use Rattle.vx_machine_turns.specs.Acts.{Act, gifts, shut, births, wrote, first_refusal, shape_in, numbers_in, indices_in, raised_in, lowered_in, passes}
use Rattle.vx_machine_turns.specs.Starts.{start_fault}
use Rattle.vx_machine_turns.specs.Compressed.{outlet_seed}
use Rattle.vx_machine_turns.specs.Turns.{firsts, start_indices}
use Rattle.vx_machine_turns.specs.Scripts.{script}
use Rattle.vx_machine_turns.specs.Fuels.{Fuel, spent, fuel, Through, Enough}
use Rattle.vx_machine_turns.specs.Duties.{Duty, duty_of, duty_script}
use Rattle.vx_machine_turns.specs.Planned.{Meets, Fair}
use Rattle.vx_machine_turns.proofs.DutyLaws.{Passing, pass, zero_more, unraised}

-- actions that give these items to the only child and count nothing
pub record Facts (acts : List Act) (items : List Item) (ended : Bool) : Type 0 where
  pub born : births acts ≡ []
  pub given : gifts 0 acts ≡ items
  pub closes : shut 0 acts ≡ ended
  pub silent : wrote acts ≡ []
  pub calm : first_refusal acts ≡ []
  pub shape : ended ≡ true → shape_in acts ≡ Some passes
  pub numbers : numbers_in acts ≡ []
  pub indices : indices_in acts ≡ []
  pub raises : raised_in acts ≡ 0
  pub lowers : lowered_in acts ≡ 0

module _ (s : Setting) (n : CompressedNode) where
  pub node_facts : (items : List Item) (ended : Bool) → Facts (script s (compressed_local n) items ended) (images s n.which items) ended
  node_facts [] true = record { born = refl; given = refl; closes = refl; silent = refl; calm = refl; shape = λ q. refl; numbers = refl; indices = refl; raises = refl; lowers = refl }
  node_facts [] false = record { born = refl; given = refl; closes = refl; silent = refl; calm = refl; shape = λ q. cc; numbers = refl; indices = refl; raises = refl; lowers = refl }
  node_facts (i ∷ is) ended =
      let h = node_facts is ended in
      record {
        born = h.born;
        given = ap (λ z. (i.0, s.image n.which i.1) ∷ z) h.given;
        closes = h.closes;
        silent = h.silent;
        calm = h.calm;
        shape = h.shape;
        numbers = h.numbers;
        indices = h.indices;
        raises = zero_more (zero_more (zero_more h.raises));
        lowers = zero_more (zero_more (zero_more h.lowers));
      }

  pub outlet_facts : (items : List Item) (ended : Bool) → Facts (script s (outlet_local n) items ended) items ended
  outlet_facts [] true = record { born = refl; given = refl; closes = refl; silent = refl; calm = refl; shape = λ q. refl; numbers = refl; indices = refl; raises = refl; lowers = refl }
  outlet_facts [] false = record { born = refl; given = refl; closes = refl; silent = refl; calm = refl; shape = λ q. cc; numbers = refl; indices = refl; raises = refl; lowers = refl }
  outlet_facts (i ∷ is) ended =
      let h = outlet_facts is ended in
      record {
        born = h.born;
        given = ap (λ z. i ∷ z) h.given;
        closes = h.closes;
        silent = h.silent;
        calm = h.calm;
        shape = h.shape;
        numbers = h.numbers;
        indices = h.indices;
        raises = zero_more (zero_more h.raises);
        lowers = zero_more (zero_more h.lowers);
      }

abbrev pub outlet_duty : Setting → CompressedNode → List Item → Bool → Duty
outlet_duty s n items ended = record { seed = outlet_seed n; items = items; ended = ended; eof = n.eof; start = start_fault s n.child n.mark }

passing_of : (s : Setting) (c child : Duty) → Facts (duty_script s c) child.items child.ended → firsts c.seed ≡ child.seed ∷ [] → start_indices c.seed.local ≡ [] → c.start ≡ child.start → (c.ended ≡ true → child.ended ≡ true)
    → Passing s c child []
passing_of s c child a first places start ends = record {
  first = first;
  born = a.born;
  given = a.given;
  closes = a.closes;
  silent = a.silent;
  calm = a.calm;
  shape = λ q. a.shape (ends q);
  counts = λ y i. absurd (subst (λ z. In y z) a.numbers i);
  moves = λ y i. absurd (subst (λ z. In y z) a.indices i);
  places = λ y i. absurd (subst (λ z. In y z) places i);
  lowers = λ q. a.lowers ∙ sym a.raises;
  start = start;
  ends = ends;
}

pub compressed_fair : (s : Setting) (which room : ℕ) (t : Ty) (k : Node) (f : Form) → Fair s k f → Fair s (compressed_node s which room t k) (compressed_form which room t f)
compressed_fair s which room t k f h = record { fair = go }
  where
    outlet_meets : (m : Bool) (name : List ℕ) (items : List Item) (ended : Bool) (e : Eof) (d : Fuel) → Through (λ d. Enough d f) (form_type f) d
        → Meets s d (outlet_duty s (record { name = name; mark = m; which = which; room = room; child = f; eof = e }) items ended) (k m items ended e)
    outlet_meets m name items ended e spent enough = absurd enough
    outlet_meets m name items ended e (fuel g) enough =
        let n : CompressedNode = record { name = name; mark = m; which = which; room = room; child = f; eof = e } in
        let a = outlet_facts s n items ended in
        let c : Duty = outlet_duty s n items ended in
        let child : Duty = duty_of s f m (under name 1) items ended e in
        pass s g c child (k m items ended e) (k m items ended e) [] (passing_of s c child a refl refl refl (λ x. x)) (h.fair m (under name 1) items ended e (g (form_type f)) enough) refl refl refl (unraised a.raises) refl

    go : (m : Bool) (name : List ℕ) (items : List Item) (ended : Bool) (e : Eof) (d : Fuel) → Enough d (compressed_form which room t f)
        → Meets s d (duty_of s (compressed_form which room t f) m name items ended e) (compressed_node s which room t k m items ended e)
    go m name items ended e spent enough = absurd enough
    go m name items ended e (fuel g) enough =
        let n : CompressedNode = record { name = name; mark = m; which = which; room = room; child = f; eof = e } in
        let a = node_facts s n items ended in
        let c : Duty = duty_of s (compressed_form which room t f) m name items ended e in
        let child : Duty = outlet_duty s n (images s which items) ended in
        pass s g c child (compressed_node s which room t k m items ended e) (k m (images s which items) ended e) [] (passing_of s c child a refl refl refl (λ x. x))
        (outlet_meets m name (images s which items) ended e (g (form_type f)) enough) refl refl refl (unraised a.raises) refl
