use Rattle.std.proofs.Common.{ℕ, ◌+◌, [], ◌∷◌, ◌++◌, map, length, vec_len, ap, ◌∙◌, arith}
use Rattle.std.proofs.lemmas.List.{map_push}
use Rattle.vx_path.specs.Path.{Eof}
use Rattle.vx_column_ids.specs.Outsets.{outset_of}
use Rattle.vx_column_ids.proofs.Pointers.{next_batches, outset_is}
use Rattle.vx_column_ids.proofs.parts.part_times.Goals as goal

pub parts-init : goal.parts-init
parts-init c = record {
  owned = c.requires.owned;
  batches = c.requires.batches;
  stem = ap (λ (e : Eof). e.stem) c.requires.first;
  last = ap (λ (e : Eof). e.last) c.requires.first;
  outsets = ap (map outset_of) c.requires.none;
  count = omega (arith, c.args.parts.now.ok.0, ap length c.requires.none);
  room = c.requires.room;
}

pub next_part-requires-clause-before : goal.next_part-requires-clause-before
next_part-requires-clause-before c = (c.parts._c, vec_len c.args.pointers.now, c.parts.invariant.batches, omega (arith, c.requires.few, c.parts-test.true))

pub next_part-requires-clause-room : goal.next_part-requires-clause-room
next_part-requires-clause-room c = omega (arith, c.requires.few, c.parts.invariant.last, c.parts-test.true)

pub parts-preserved : goal.parts-preserved
parts-preserved c =
    let inv = c.parts.invariant in
    let made = c.in_ok-part.ensures in
    let n : ℕ = vec_len c.args.pointers.now in
    record {
      owned = c.next_part.ensures.owned;
      batches = next_batches c.parts.pointers.items c.next_part.new.pointers.items c.parts._c n inv.batches made.next.0;
      stem = ap (λ (e : Eof). e.stem) made.next.1 ∙ inv.stem;
      last = ap (λ (e : Eof). e.last) made.next.1 ∙ ap (λ k. k + 1) inv.last;
      outsets = ap (map outset_of) c.push_reserved.ensures.items ∙ map_push outset_of c.parts.parts.items c.in_ok-part.part
          ∙ ap (λ os. os ++ (outset_of c.in_ok-part.part ∷ [])) inv.outsets
          ∙ outset_is c.in_ok-part.part c.parts._c n c.parts.pointers.items c.parts.eof inv.batches inv.stem inv.last made.part.0 made.part.1;
      count = omega (arith, c.push_reserved.ensures.len, inv.count);
      room = omega (arith, c.push_reserved.ensures.capacity, inv.room);
    }
