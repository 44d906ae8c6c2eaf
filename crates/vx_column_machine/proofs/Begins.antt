-- A column's own machine can begin with its first batches, however many.
use Rattle.std.proofs.Common.{◌≡◌, ◌+◌, ◌≤◌, ◌++◌, ◌∙◌, ℕ, zero, suc, List, length, length-append, ap, inl, inr, arith}
use Rattle.vx_model.specs.ChunkData.{ChunkData}
use Rattle.vx_path.specs.Lists.{In}
use Rattle.vx_path.specs.Path.{Scattered}
use Rattle.vx_named_tasks.specs.Names.{Names, onward, handed, later_names, paths_from, CanName, Outset, CanBegin}
use Rattle.vx_named_tasks.proofs.NamedLaws.{column_begins}
use Rattle.vx_column_machine.specs.Course.{Course, outset_of}

-- ---- of so many batches the first ones

among_more : (ns : Names) (n m : ℕ) → m ≤ n → (p : List ℕ) → In p (paths_from ns m) → In p (paths_from ns n)
among_more ns n zero h p i = absurd i
among_more ns zero (suc m) h p i = absurd (omega (arith, h))
among_more ns (suc n) (suc m) h p (inl e) = inl e
among_more ns (suc n) (suc m) h p (inr i) = inr (among_more (later_names ns) n m (omega (arith, h)) p i)

fewer_apart : (ns : Names) (n m : ℕ) → m ≤ n → Scattered (paths_from ns n) → Scattered (paths_from ns m)
fewer_apart ns n zero h s = tt
fewer_apart ns zero (suc m) h s = absurd (omega (arith, h))
fewer_apart ns (suc n) (suc m) h s = (
  λ q i. s.0 q (among_more (later_names ns) n m (omega (arith, h)) q i),
  fewer_apart (later_names ns) n m (omega (arith, h)) s.1,
)

fewer_named : (ns : Names) (n m : ℕ) → m ≤ n → CanName ns n → CanName ns m
fewer_named (onward e) n m h c = tt
fewer_named (handed ps) n m h c = omega (arith, h, c)

fewer_begin : (o : Outset) (n m : ℕ) → m ≤ n → CanBegin o n → CanBegin o m
fewer_begin o n m h c = record {
  can = fewer_named o.names n m h c.can;
  apart = fewer_apart o.names n m h c.apart;
  before = λ p i k. c.before p (among_more o.names n m h p i) k;
}

-- ---- of a column's chunks

module _ (x : Course) where
  pub can_begin : (m : ℕ) → m ≤ length x.chunks → CanBegin (outset_of x) m
  can_begin m h = fewer_begin (outset_of x) (length x.chunks) m h (column_begins x.number (length x.chunks))

  -- with all of them, and with those that were taken
  pub can_all : (cs : List ChunkData) → x.chunks ≡ cs → CanBegin (outset_of x) (length cs)
  can_all cs e = let l : length x.chunks ≡ length cs = ap length e in can_begin (length cs) (omega (arith, l))

  pub can_taken : (taken later : List ChunkData) → x.chunks ≡ taken ++ later → CanBegin (outset_of x) (length taken)
  can_taken taken later e =
      let l : length x.chunks ≡ length taken + length later = ap length e ∙ length-append taken later in
      can_begin (length taken) (omega (arith, l))
