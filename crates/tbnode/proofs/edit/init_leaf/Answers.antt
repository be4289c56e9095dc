use Rattle.std.proofs.Common.{◌≡◌, ◌∙◌, ◌^◌, ◌<◌, ap, refl, rules, arith, List, ℕ}
use Rattle.byteorder.specs.Endian.{big_bytes}
use Rattle.pages.specs.Zero.{zero_payload}
use Rattle.tbnode.specs.Form.{leaf_leg_count}
use Rattle.tbnode.specs.Layout.{leg_bytes}
use Rattle.tbnode.specs.Parts.{put}
use Rattle.tbnode.specs.Steps.{pushed}
use Rattle.tbnode.proofs.LeafLemmas.{begun, begun_count, leaf_begun}
use Rattle.tbnode.proofs.edit.init_leaf.Goals.{After-put_u32-2}
use Rattle.tbnode.proofs.edit.init_leaf.Goals as goal

written : (zeros one two : List ℕ) (n feature previous : ℕ) → one ≡ put 0 (big_bytes 4 n) zeros → two ≡ put 4 (big_bytes 4 previous) one → n ≡ feature → two ≡ begun feature previous zeros
written zeros one two n feature previous e f same =
    f ∙ ap (put 4 (big_bytes 4 previous)) (e ∙ ap (λ k. put 0 (big_bytes 4 k) zeros) same)

-- before the leg the bytes are a leaf of no legs yet
is_begun : (c : goal.After-put_u32-2) → c.put_u32-2.new.bytes ≡ begun c.args.leg.now.feature c.args.previous c.zero.result.bytes
is_begun c = written c.zero.result.bytes c.put_u32.new.bytes c.put_u32-2.new.bytes c.leg.inside.feature c.args.leg.now.feature c.args.previous c.put_u32.ensures c.put_u32-2.ensures (ap (λ l. l.feature) c.leg.view_is)

-- and then that leg is written into them
is_pushed : (c : goal.After-append_leg) → c.append_leg.new.bytes ≡ pushed 80 12 (leg_bytes c.args.leg.now) (begun c.args.leg.now.feature c.args.previous c.zero.result.bytes)
is_pushed c = c.append_leg.ensures.pushed ∙ ap (pushed 80 12 (leg_bytes c.args.leg.now)) (is_begun (goal.at.returns c).After-put_u32-2)

pub append_leg-requires-clause-room : goal.append_leg-requires-clause-room
unfolding zero_payload
append_leg-requires-clause-room c =
    let none = begun_count c.args.leg.now.feature c.args.previous 4056 c.zero.result.bytes (ap (λ p. p.bytes) c.zero.ensures) (omega arith) in
    let e = ap leaf_leg_count (is_begun (goal.at.append_leg-requires-clause-room c).After-put_u32-2) in
    omega (arith, none, e)

pub returns : goal.returns
unfolding zero_payload
returns c =
    let same : c.leg.inside.feature ≡ c.args.leg.now.feature = ap (λ l. l.feature) c.leg.view_is in
    let small : c.leg.inside.feature < 2 ^ 32 = search rules in
    record {
      node = leaf_begun _ c.args.previous c.args.leg.now c.zero.result.bytes c.append_leg.new.bytes (ap (λ p. p.kind) c.zero.ensures) refl
          (is_pushed c) (ap (λ p. p.bytes) c.zero.ensures) (omega (arith, same, small)) (omega arith) c.append_leg.ensures.reads_back;
    }
