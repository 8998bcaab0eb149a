use Rattle.std.proofs.Common.{◌∙◌, set, arith, rules}
use Rattle.std.proofs.lemmas.List.{length-set}
use Rattle.guest_script.proofs.HexSteps.{hex_start, hex_step, hex_end, hex_room, hex_less, hex_rest}
use Rattle.guest_script.proofs.printer.hex_digits.Goals as goal

pub loop-rest-init : goal.loop-rest-init
loop-rest-init c = record {
  same = hex_start c.args.n c.args.buffer.now (search rules);
  small = omega arith;
  within = omega arith;
  whole = search rules;
}

pub loop-rest-preserved : goal.loop-rest-preserved
loop-rest-preserved c =
    let i = c.loop-rest.invariant in
    let room = hex_room c.loop-rest.at c.loop-rest.rest c.loop-rest-test.true i.small in
    record {
      same = hex_step c.loop-rest.at c.loop-rest.rest c.hex_digit.result c.loop-rest.buffer c.loop-rest-test.true room (omega arith) (search rules) ∙ i.same;
      small = hex_less c.loop-rest.at c.loop-rest.rest room i.small;
      within = omega arith;
      whole = length-set c.loop-rest.buffer c.loop-rest.at c.hex_digit.result ∙ i.whole;
    }

pub returns : goal.returns
returns c =
    let i = c.loop-rest.invariant in
    hex_rest c.loop-rest.at (set c.loop-rest.buffer c.loop-rest.at c.hex_digit-2.result) (length-set c.loop-rest.buffer c.loop-rest.at c.hex_digit-2.result ∙ i.whole) ∙ (hex_end c.loop-rest.at c.loop-rest.rest c.hex_digit-2.result c.loop-rest.buffer c.loop-rest-test.false (omega arith) (search rules) ∙ i.same)
