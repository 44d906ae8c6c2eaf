use Rattle.std.proofs.Common.{◌∙◌, ◌<◌, ◌-◌, ◌/◌, ◌≡◌, ℕ, List, length, get_or, sym, ap, subst, arith}
use Rattle.std.proofs.lemmas.List.{length-take-le, length-drop}
use Rattle.std.specs.List.{All}
use Rattle.std.specs.Global.{Vec}
use Rattle.vx_sequence.specs.declared.entries.Entry.{Entry}
use Rattle.vx_sequence.specs.Blocks.{all_of}
use Rattle.vx_sequence.proofs.InBlocks.{HasEntry, cut_in, cut_filled, at_block}
use Rattle.vx_sequence.proofs.blocks.Blocks.cut.Goals as goal

pub returns-in-Ok-insert-clause-same : goal.returns-in-Ok-insert-clause-same
returns-in-Ok-insert-clause-same c =
    let lt : c.args.block < length c.reserve.new.self.items = subst (λ (l : List (Vec Entry)). c.args.block < length l) (sym c.reserve.ensures.items) c.requires.block in
    ap all_of c.in-Ok-insert.ensures.items
    ∙ cut_in c.reserve.new.self.items c.args.block lt c.index_mut-whole.result.now c.index_mut-whole.ensures.value (c.len-half.result / 2)
    c.split_off.new.self c.in-Ok.rest c.in-Ok.ensures.items c.in-Ok.ensures.tail
    ∙ ap all_of c.reserve.ensures.items

pub returns-in-Ok-insert-clause-filled : goal.returns-in-Ok-insert-clause-filled
returns-in-Ok-insert-clause-filled c =
    let lt : c.args.block < length c.reserve.new.self.items = subst (λ (l : List (Vec Entry)). c.args.block < length l) (sym c.reserve.ensures.items) c.requires.block in
    let items : List Entry = c.index_mut-whole.result.now.items in
    let two : 1 < length items =
    at_block c.reserve.new.self.items c.args.block lt c.index_mut-whole.result.now c.index_mut-whole.ensures.value (λ d. 1 < length d.items)
    (subst (λ (l : List (Vec Entry)). (d : Vec Entry) → 1 < length (get_or l c.args.block d).items) (sym c.reserve.ensures.items) c.requires.two) in
    let half : ℕ = c.len-half.result / 2 in
    let size : c.len-half.result ≡ length items = c.len-half.ensures ∙ c.index_mut-whole.result.now.ok.0 in
    let first : length c.split_off.new.self.items ≡ half = ap length c.in-Ok.ensures.items ∙ length-take-le half items (omega (arith, size)) in
    let rest : length c.in-Ok.rest.items ≡ length items - half = ap length c.in-Ok.ensures.tail ∙ length-drop half items in
    record {
      filled = subst (All HasEntry) (sym c.in-Ok-insert.ensures.items)
          (cut_filled c.reserve.new.self.items c.args.block lt c.index_mut-whole.result.now c.index_mut-whole.ensures.value c.split_off.new.self c.in-Ok.rest
          (subst (All HasEntry) (sym c.reserve.ensures.items) c.requires.filled.filled)
          (omega (arith, size, two, first)) (omega (arith, size, two, rest)));
      counted = c.requires.filled.counted ∙ sym (ap length (returns-in-Ok-insert-clause-same c));
    }
