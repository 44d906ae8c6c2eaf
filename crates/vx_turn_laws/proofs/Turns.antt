-- What tasks put on the queues of their children is what the rules give.
use Rattle.std.proofs.Common.{◌≡◌, ℕ, suc, ◌+◌, ◌*◌, Bool, true, false, List, [], ◌∷◌, ◌++◌, refl, sym, ap, ap₂, ◌∙◌, arith, append_assoc}
use Rattle.std.proofs.lemmas.List.{append-nil}
use Rattle.vx_model.specs.CellData.{CellData}
use Rattle.vx_model.specs.ChunkData.{ChunkData, plain_piece, cells}
use Rattle.vx_path.specs.Path.{Eof, under, next}
use Rattle.vx_rules.specs.Regroup.{ranked}
use Rattle.vx_rules.specs.Runs.{codes_piece, stretches}
use Rattle.vx_tasks.specs.Task.Kind.{Join}
use Rattle.vx_plan.specs.PlanData.{Setting, Item}
use Rattle.vx_react.specs.Reactor.{Output, placed, child_outputs}
use Rattle.vx_react.specs.Cutter.{Cutting, next_number, closed_outputs, open_outputs}
use Rattle.vx_machine_turns.specs.Locals.{DictNode, RunsSoFar}
use Rattle.vx_machine_turns.specs.Acts.{Act, does, close_queues}
use Rattle.vx_machine_turns.specs.Grouped.{Grouper, block_grouper, byte_grouper, weighed_puts}
use Rattle.vx_machine_turns.specs.Dict.{Stretch, cut_puts, ended_puts, base_after, last_stretches}
use Rattle.vx_turn_laws.specs.Given.{put_by, for_children}
use Rattle.vx_turn_laws.specs.Statements.{GroupTurn, GroupTurnsReact, CollectTurnsReact, Knows, RunTurn, RunTurnsReact, RunsStart}

put_by-append : (xs ys : List Act) → put_by (xs ++ ys) ≡ put_by xs ++ put_by ys
put_by-append [] ys = refl
put_by-append (a ∷ xs) ys = ap (λ z. a.gives ++ z) (put_by-append xs ys) ∙ sym (append_assoc a.gives (put_by xs) (put_by ys))

-- an action that puts nothing, behind others
nothing_more : (xs : List Act) (a : Act) → a.gives ≡ [] → put_by (xs ++ (a ∷ [])) ≡ put_by xs
nothing_more xs a h = put_by-append xs (a ∷ []) ∙ ap (λ z. put_by xs ++ (z ++ [])) h ∙ append-nil (put_by xs)

-- ---- regrouping

weighed : (weight : ChunkData → ℕ) (p : List ℕ) (r : ℕ) (cs : List ChunkData) → put_by (weighed_puts weight (ranked p r cs)) ≡ for_children (placed p r (child_outputs cs))
weighed weight p r [] = refl
weighed weight p r (c ∷ cs) = ap (λ z. (0, (under p r, c)) ∷ z) (weighed weight p (suc r) cs)

group_turn_is : {S : Type 0} (g : Grouper S) (x : S) (j : Item) → GroupTurn g x j
group_turn_is g x j = record {
  gives = λ after rows i. weighed g.weight j.0 0 (g.rule.leaves x j.1);
  ends = nothing_more (weighed_puts g.weight (ranked j.0 0 (g.rule.rest x j.1))) (close_queues (0 ∷ [])) refl ∙ weighed g.weight j.0 0 (g.rule.rest x j.1);
}

pub group_turns_react : GroupTurnsReact
group_turns_react j = record {
  by_blocks = λ o t rows. group_turn_is (block_grouper o t) rows j;
  by_bytes = λ size ps. group_turn_is (byte_grouper size) ps j;
}

pub collect_turns_react : CollectTurnsReact
collect_turns_react n x rows i = record { holds = refl; gives = refl; ends = refl }

-- ---- runs

module _ (s : Setting) (n : DictNode) (p : List ℕ) where
  -- the outputs of a cut, those of the run that goes on last
  abbrev outputs : ℕ → List Stretch → List ℕ → List CellData → Bool → List Output
  outputs number xs codes ds last = closed_outputs n.options n.type number xs (open_outputs n.options n.type (next_number number xs) codes ds last)

  -- two outputs of one run, at a child's number and rank
  first_two : (base rank number : ℕ) (x : Stretch) (later : List (ℕ × Item)) (more : List Output) → base ≡ 2 * number → later ≡ for_children (placed p (rank + 2) more)
      → (base, (under p rank, codes_piece n.options x.0)) ∷ (suc base, (under p (suc rank), plain_piece n.type x.1)) ∷ later
      ≡ for_children (placed p rank (closed_outputs n.options n.type number (x ∷ []) more))
  first_two base rank number x later more h e =
      let r : rank + 2 ≡ suc (suc rank) = omega arith in
      ap₂ (λ b l. (b, (under p rank, codes_piece n.options x.0)) ∷ (suc b, (under p (suc rank), plain_piece n.type x.1)) ∷ l) h (e ∙ ap (λ k. for_children (placed p k more)) r)

  cut_given : (base rank number : ℕ) (e : Eof) (begun : Bool) (xs : List Stretch) (codes : List ℕ) (ds : List CellData) → base ≡ 2 * number
      → put_by (cut_puts s n p rank base e begun xs codes) ≡ for_children (placed p rank (outputs number xs codes ds false))
  cut_given base rank number e begun [] codes ds h = ap (λ b. (b, (under p rank, codes_piece n.options codes)) ∷ []) h
  cut_given base rank number e begun (x ∷ xs) codes ds h =
      first_two base rank number x (put_by (cut_puts s n p (rank + 2) (suc (suc base)) (next (next e)) false xs codes)) (outputs (suc number) xs codes ds false) h
      (cut_given (suc (suc base)) (rank + 2) (suc number) (next (next e)) false xs codes ds (omega (arith, h)))

  ended_given : (base rank number : ℕ) (e : Eof) (begun : Bool) (xs : List Stretch) (codes : List ℕ) (ds : List CellData) → base ≡ 2 * number
      → put_by (ended_puts s n p rank base e begun (xs ++ ((codes, ds) ∷ []))) ≡ for_children (placed p rank (outputs number xs codes ds true))
  ended_given base rank number e begun [] codes ds h = first_two base rank number (codes, ds) [] [] h refl
  ended_given base rank number e begun (x ∷ xs) codes ds h =
      first_two base rank number x (put_by (ended_puts s n p (rank + 2) (suc (suc base)) (next (next e)) false (xs ++ ((codes, ds) ∷ [])))) (outputs (suc number) xs codes ds true) h
      (ended_given (suc (suc base)) (rank + 2) (suc number) (next (next e)) false xs codes ds (omega (arith, h)))

base_is : (base number : ℕ) (xs : List Stretch) → base ≡ 2 * number → base_after base xs ≡ 2 * next_number number xs
base_is base number [] h = h
base_is base number (x ∷ xs) h = base_is (suc (suc base)) (suc number) xs (omega (arith, h))

-- where the distinct cells are those that the cutter knows
run_turn_is : (s : Setting) (n : DictNode) (r : RunsSoFar) (c : Cutting) (j : Item) → Knows r c → RunTurn s n r c j
run_turn_is s n r c j k =
    let b = λ (ds : List CellData). stretches n.options n.type ds [] (cells j.1) in
    record {
      gives = λ rows i. cut_given s n j.0 r.base 0 c.number r.eof r.begun (b r.distinct).closed (b r.distinct).codes (b r.distinct).distinct k.base
          ∙ ap (λ ds. for_children (placed j.0 0 (outputs s n j.0 c.number (b ds).closed (b ds).codes (b ds).distinct false))) k.distinct;
      holds = record {
        base = base_is r.base c.number (b r.distinct).closed k.base ∙ ap (λ ds. 2 * next_number c.number (b ds).closed) k.distinct;
        distinct = ap (λ ds. (b ds).distinct) k.distinct;
      };
      ends = nothing_more (ended_puts s n j.0 0 r.base r.eof r.begun (last_stretches n r j)) (does Join) refl
          ∙ ended_given s n j.0 r.base 0 c.number r.eof r.begun (b r.distinct).closed (b r.distinct).codes (b r.distinct).distinct k.base
          ∙ ap (λ ds. for_children (placed j.0 0 (outputs s n j.0 c.number (b ds).closed (b ds).codes (b ds).distinct true))) k.distinct;
    }

pub run_turns_react : RunTurnsReact
run_turns_react s n r c j k = run_turn_is s n r c j k

pub runs_start : RunsStart
runs_start n i = record { runs = record { base = 0; eof = n.eof; begun = false; distinct = []; rows = 0; ended = [] }; after = refl; knows = record { base = refl; distinct = refl } }
