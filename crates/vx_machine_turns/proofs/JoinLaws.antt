-- Where tasks join: last, and holding nothing. A zoned node holds its pointer at its first join, above its data child.
use Rattle.std.proofs.Common.{◌≡◌, ℕ, suc, ◌+◌, Bool, true, false, ◌||◌, List, [], ◌∷◌, ◌++◌, length, Some, None, refl, sym, ap, ◌∙◌, subst}
use Rattle.std.specs.Prelude.{if◌then◌else◌}
use Rattle.std.proofs.lemmas.Bool.{true≢false}
use Rattle.vx_model.specs.ChunkData.{ChunkData}
use Rattle.vx_path.specs.Lists.{In}
use Rattle.vx_path.specs.Path.{Eof, next}
use Rattle.vx_tasks.specs.Task.{Kind, Forest, has, is_still}
use Rattle.vx_tasks.specs.Task.Kind.{Free, Take, TakeEnd, Put, Append, Join}
use Rattle.vx_tasks.specs.Nodes.{numbers}
use Rattle.vx_tasks.specs.Joins.{Joins}
use Rattle.vx_plan.specs.PlanData.{Setting, Item}
use Rattle.vx_plan.specs.DictNode.{is_dictionary}
use Rattle.vx_machine_turns.specs.Forms.{Writer}
use Rattle.vx_machine_turns.specs.Locals.{Local, DictNode, flat_empty, flat_full, flat_many, chunked_local, struct_local, list_local, blocks_local, bytes_local, collect_local, compressed_local, outlet_local, dict_local, fallback_local, runs_local, zoned_local, idle_local, source_local, outside_local}
use Rattle.vx_machine_turns.specs.Acts.{Act, does, close_queues, shut}
use Rattle.vx_machine_turns.specs.Columns.{column_ends}
use Rattle.vx_machine_turns.specs.Grouped.{block_grouper, byte_grouper, weighed_puts, group_rest}
use Rattle.vx_machine_turns.specs.Dict.{Stretch, ended_puts, last_stretches, runs_first, fallback_first}
use Rattle.vx_machine_turns.specs.Turns.{turn, first_at_end, more_at_end, kept}
use Rattle.vx_machine_turns.specs.Scripts.{all_uses, filled, script}
use Rattle.vx_machine_turns.specs.Plain.{plain}
use Rattle.vx_machine_turns.specs.Paths.{At, is_soft, AllSoft, Goes}
use Rattle.vx_machine_turns.proofs.PathLaws.{turns_go}
use Rattle.vx_machine_turns.proofs.GoodLaws.{StillLast, soft_still}

-- of any other node
abbrev pub Bare : Local → Type 0
Bare (flat_empty o t) = ⊥
Bare (flat_full o t j b) = ⊥
Bare flat_many = ⊥
Bare (chunked_local n j p rows) = Unit {0}
Bare (struct_local n rows) = Unit {0}
Bare (list_local n first from rows) = Unit {0}
Bare (blocks_local o n x j rows) = Unit {0}
Bare (bytes_local size n x j rows) = Unit {0}
Bare (collect_local n x rows) = Unit {0}
Bare (compressed_local n) = Unit {0}
Bare (outlet_local n) = Unit {0}
Bare (dict_local n) = Unit {0}
Bare fallback_local = Unit {0}
Bare (runs_local n r j rows) = Unit {0}
Bare (zoned_local n records last zones rows) = ⊥
Bare idle_local = Unit {0}
Bare (source_local f m o) = ⊥
Bare outside_local = ⊥

bare_stays : (s : Setting) (l : Local) (i : Item) → Bare l → Bare (turn s l i).after
bare_stays s (flat_empty o t) i b = absurd b
bare_stays s (flat_full o t j c) i b = absurd b
bare_stays s flat_many i b = absurd b
bare_stays s (chunked_local n j p rows) i b = tt
bare_stays s (struct_local n rows) i b = tt
bare_stays s (list_local n first from rows) i b = tt
bare_stays s (blocks_local o n x None rows) i b = tt
bare_stays s (blocks_local o n x (Some j) rows) i b = tt
bare_stays s (bytes_local size n x None rows) i b = tt
bare_stays s (bytes_local size n x (Some j) rows) i b = tt
bare_stays s (collect_local n x rows) i b = tt
bare_stays s (compressed_local n) i b = tt
bare_stays s (outlet_local n) i b = tt
bare_stays s (dict_local n) i b = go (is_dictionary (s.image n.options.probe i.1))
  where
    go : (b : Bool) → Bare (if b then runs_first n i else fallback_first s n i).after
    go true = tt
    go false = tt
bare_stays s fallback_local i b = tt
bare_stays s (runs_local n r j rows) i b = tt
bare_stays s (zoned_local n records last zones rows) i b = absurd b
bare_stays s idle_local i b = tt
bare_stays s (source_local f m o) i b = absurd b
bare_stays s outside_local i b = absurd b

-- ---- the end: joins come last, close nothing and use nothing

abbrev EndsBare : List Act → Type 0
EndsBare [] = Unit {0}
EndsBare (a ∷ acts) = (is_still a.kind ≡ true → ((j : ℕ) → shut j (a ∷ acts) ≡ false) × (all_uses (a ∷ acts) ≡ [])) × EndsBare acts

pub not_still : (P : Type 0) → false ≡ true → P
not_still P h = absurd (true≢false (sym h))

one_join : EndsBare (does Join ∷ [])
one_join = ((λ q. ((λ j. refl), refl)), tt)

columns_bare : (ws : List Writer) → EndsBare (column_ends ws)
columns_bare [] = tt
columns_bare (w ∷ ws) = ((λ q. not_still _ q), one_join)

weighed_bare : (w : ChunkData → ℕ) (xs : List Item) → EndsBare (weighed_puts w xs ++ (close_queues (0 ∷ []) ∷ []))
weighed_bare w [] = ((λ q. not_still _ q), tt)
weighed_bare w (x ∷ xs) = ((λ q. not_still _ q), weighed_bare w xs)

runs_bare : (s : Setting) (n : DictNode) (p : List ℕ) (rank base : ℕ) (e : Eof) (begun : Bool) (xs : List Stretch) → EndsBare (ended_puts s n p rank base e begun xs ++ (does Join ∷ []))
runs_bare s n p rank base e begun [] = one_join
runs_bare s n p rank base e begun (x ∷ xs) = ((λ q. not_still _ q), ((λ q. not_still _ q), runs_bare s n p (rank + 2) (suc (suc base)) (next (next e)) false xs))

ends_bare : (s : Setting) (l : Local) → Bare l → EndsBare (more_at_end s l)
ends_bare s (flat_empty o t) b = absurd b
ends_bare s (flat_full o t j c) b = absurd b
ends_bare s flat_many b = absurd b
ends_bare s (chunked_local n j p rows) b = one_join
ends_bare s (struct_local n rows) b = columns_bare n.writers
ends_bare s (list_local n true from rows) b = tt
ends_bare s (list_local n false from rows) b = columns_bare n.writers
ends_bare s (blocks_local o n x j rows) b = weighed_bare (block_grouper o n.type).weight (group_rest (block_grouper o n.type) x j)
ends_bare s (bytes_local size n x j rows) b = weighed_bare (byte_grouper size).weight (group_rest (byte_grouper size) x j)
ends_bare s (collect_local n None rows) b = ((λ q. not_still _ q), tt)
ends_bare s (collect_local n (Some x) rows) b = ((λ q. not_still _ q), ((λ q. not_still _ q), tt))
ends_bare s (compressed_local n) b = ((λ q. not_still _ q), tt)
ends_bare s (outlet_local n) b = ((λ q. not_still _ q), tt)
ends_bare s (dict_local n) b = ((λ q. not_still _ q), tt)
ends_bare s fallback_local b = ((λ q. not_still _ q), tt)
ends_bare s (runs_local n r j rows) b = runs_bare s n j.0 0 r.base r.eof r.begun (last_stretches n r j)
ends_bare s (zoned_local n records last zones rows) b = absurd b
ends_bare s idle_local b = tt
ends_bare s (source_local f m o) b = absurd b
ends_bare s outside_local b = absurd b

-- ---- whole scripts

shut_filled : (keep : List (List ℕ)) (acts : List Act) (j : ℕ) → shut j (filled keep acts) ≡ shut j acts
shut_filled keep [] j = refl
shut_filled keep (a ∷ acts) j = ap (λ z. has j a.shuts || z) (shut_filled keep acts j)

ends_last : (acts : List Act) (k : ℕ) → EndsBare acts → StillLast k (filled [] acts)
ends_last [] k h = tt
ends_last (a ∷ acts) k h = ((λ q j l. ap (λ z. has j a.shuts || z) (shut_filled [] acts j) ∙ (h.0 q).0 j), ends_last acts (length a.starts + k) h.1)

join_still : (k : Kind) → k ≡ Join → is_still k ≡ true
join_still k h = ap is_still h

ends_join : (kids : Forest) (acts : List Act) (k : ℕ) (on : List ℕ) → EndsBare acts → Joins kids on (all_uses acts ++ []) (plain k (filled [] acts))
ends_join kids [] k on h = tt
ends_join kids (a ∷ acts) k on h = (
  (λ q m i. absurd (subst (λ z. In m z) (ap (λ z. z ++ []) (h.0 (join_still a.kind q)).1) i)),
  ends_join kids acts (length a.starts + k) (numbers k (length a.starts) ++ on) h.1,
)

soft_join : (k : Kind) → is_soft k ≡ true → k ≡ Join → ⊥
soft_join (Free w) h q = cc
soft_join Take h q = cc
soft_join TakeEnd h q = cc
soft_join (Put c) h q = cc
soft_join (Append p) h q = cc
soft_join Join h q = absurd (true≢false (sym h))

soft_joins : (kids : Forest) (keep : List (List ℕ)) (acts rest : List Act) (k : ℕ) (on : List ℕ) → AllSoft acts → ((k : ℕ) (on : List ℕ) → Joins kids on keep (plain k rest)) → Joins kids on (all_uses acts ++ keep) (plain k (filled keep acts ++ rest))
soft_joins kids keep [] rest k on h r = r k on
soft_joins kids keep (a ∷ acts) rest k on h r = ((λ q m i. absurd (soft_join a.kind h.0 q)), soft_joins kids keep acts rest (length a.starts + k) (numbers k (length a.starts) ++ on) h.1 r)

pub take_join : Take ≡ Join → ⊥
take_join h = cc

pub end_join : TakeEnd ≡ Join → ⊥
end_join h = cc

module _ (e : Eof) (s : Setting) where
  pub script_last : (items : List Item) (l : Local) (ended : Bool) (k : ℕ) → At e l → Bare l → StillLast k (script s l items ended)
  script_last [] l false k a b = tt
  script_last [] l true k a b = ((λ q. not_still _ q), ends_last (more_at_end s l) (length (first_at_end s l).starts + k) (ends_bare s l b))
  script_last (i ∷ is) l ended k a b =
      let h : Goes e s l i = (turns_go e s l a).0 i in (
        (λ q. not_still _ q),
        soft_still (kept (turn s l i).after) (turn s l i).more (script s (turn s l i).after is ended) (length (turn s l i).first.starts + k) h.soft
            (λ k. script_last is (turn s l i).after ended k h.stays (bare_stays s l i b)),
      )

  pub script_joins : (kids : Forest) (items : List Item) (l : Local) (ended : Bool) (k : ℕ) (on : List ℕ) → At e l → Bare l → Joins kids on (kept l) (plain k (script s l items ended))
  script_joins kids [] l false k on a b = tt
  script_joins kids [] l true k on a b = ((λ q m i. absurd (end_join q)), ends_join kids (more_at_end s l) (length (first_at_end s l).starts + k) (numbers k (length (first_at_end s l).starts) ++ on) (ends_bare s l b))
  script_joins kids (i ∷ is) l ended k on a b =
      let h : Goes e s l i = (turns_go e s l a).0 i in (
        (λ q m n. absurd (take_join q)),
        soft_joins kids (kept (turn s l i).after) (turn s l i).more (script s (turn s l i).after is ended) (length (turn s l i).first.starts + k) (numbers k (length (turn s l i).first.starts) ++ on) h.soft
            (λ k on. script_joins kids is (turn s l i).after ended k on h.stays (bare_stays s l i b)),
      )
