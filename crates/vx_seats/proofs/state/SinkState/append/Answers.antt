use Rattle.std.proofs.Common.{rules, ◌∙◌, ◌++◌, ◌∷◌, [], ap}
use Rattle.vx_order_answer.specs.declared.receipt.Receipt.{Receipt}
use Rattle.vx_seats.proofs.History.{ascending_more, listed_more, numbered_more, told_more}
use Rattle.vx_seats.proofs.state.SinkState.append.Goals as goal

pub invariant_of-self-in-Ok-append-clause-ascending : goal.invariant_of-self-in-Ok-append-clause-ascending
invariant_of-self-in-Ok-append-clause-ascending g c =
    let r : Receipt = record { path = c.in-Ok.kept; number = c.in-Ok-append.segment.0 } in
    ascending_more c.args.self.now.history.items c.put.new.history.items r c.args.path.now (c.put.ensures ∙ ap (λ xs. xs ++ (r ∷ [])) c.prepared.ensures.items)
    (search rules) c.requires.free.is_new c.args.self.now.ascending

pub invariant_of-self-in-Ok-append-clause-listed : goal.invariant_of-self-in-Ok-append-clause-listed
invariant_of-self-in-Ok-append-clause-listed g c =
    let r : Receipt = record { path = c.in-Ok.kept; number = c.in-Ok-append.segment.0 } in
    listed_more g.P.Pairs.pairs c.args.self.now.history.items c.put.new.history.items r c.args.path.now c.args.bytes.now
    (c.put.ensures ∙ ap (λ xs. xs ++ (r ∷ [])) c.prepared.ensures.items) (search rules) c.requires.allowed c.args.self.now.listed

pub invariant_of-self-in-Ok-append-clause-numbers : goal.invariant_of-self-in-Ok-append-clause-numbers
invariant_of-self-in-Ok-append-clause-numbers g c =
    let r : Receipt = record { path = c.in-Ok.kept; number = c.in-Ok-append.segment.0 } in
    numbered_more g.P.Pairs.first c.args.self.now.history.items c.put.new.history.items r (c.put.ensures ∙ ap (λ xs. xs ++ (r ∷ [])) c.prepared.ensures.items)
    (c.in-Ok-append.ensures.number ∙ c.args.self.now.next) c.args.self.now.numbers

pub invariant_of-self-in-Ok-append-clause-told : goal.invariant_of-self-in-Ok-append-clause-told
invariant_of-self-in-Ok-append-clause-told g c =
    let r : Receipt = record { path = c.in-Ok.kept; number = c.in-Ok-append.segment.0 } in
    told_more g.P.Pairs.pairs g.P.Pairs.told (g.S.SegmentSink.segments c.args.self.now.sink) (g.S.SegmentSink.segments c.append.new.self)
    c.args.self.now.history.items c.put.new.history.items r c.args.path.now c.args.bytes.now
    (c.put.ensures ∙ ap (λ xs. xs ++ (r ∷ [])) c.prepared.ensures.items) (search rules) c.requires.allowed c.args.self.now.told c.in-Ok-append.ensures.segments
