use Rattle.std.proofs.Common.{◌≡◌, length, arith}
use Rattle.vsm_core.specs.Messages.{message, message_words}
use Rattle.intercept_msg.proofs.InWords.{words-read}
use Rattle.intercept_msg.proofs.slot.words.Goals as goal

pub returns : goal.returns
unfolding message_words
returns c =
    let long : length c.read_u64_into.new.dst ≡ 12 = omega arith in
    let read = rw c.encode.ensures.bytes at c.read_u64_into.ensures in
    record { words = words-read 12 (message c.args.note.now) c.read_u64_into.new.dst long read }
