-- What a hypercall asks of the partition and of other processors, and what comes after.
use Rattle.std.specs.Prelude.{◌≡◌, ℕ, ◌+◌, ◌*◌, ◌-◌, ◌/◌, ◌%◌, ◌<◌, ◌≤◌, List, [], take}
use Rattle.vsm_base.specs.declared.places.Access.{Access}
use Rattle.vsm_base.specs.declared.places.Access.TheVariants.{Read, Write}
use Rattle.vsm_base.specs.declared.status.TheConstants.HvStatus as statuses
use Rattle.vsm_core.specs.declared.request.PartCall.{PartCall}
use Rattle.vsm_core.specs.declared.request.PartCall.TheVariants as parts
use Rattle.vsm_core.specs.declared.request.Reply.{Reply}
use Rattle.vsm_core.specs.declared.request.Request.{Request}
use Rattle.vsm_core.specs.Attempt.{looked_by}
use Rattle.vsm_core.specs.Hypercalls.{output_address, replied, result_outcome}
use Rattle.vsm_core.specs.Interrupts.{those_in, interrupt_step, interrupt_steps}
use Rattle.vsm_core.specs.Outcomes.{Origin, Outcome}
use Rattle.vsm_core.specs.RegisterCalls.{count_of, start_of, slice_outcome}
use Rattle.vsm_core.specs.Reps.{replied_end}
use Rattle.vsm_core.specs.Tree.{Tree, Ends, Asks, Wants, asks_all}
use Rattle.hyper_abi.specs.declared.form.Call.{Call}
use Rattle.hyper_abi.specs.declared.interrupt.Interrupt.{Interrupt}
use Rattle.hyper_abi.specs.Told.{row_for}
use Rattle.rep_frame.specs.Asks.{look_call}
use Rattle.attempt.specs.declared.stage.Asked.{Asked}
use Rattle.attempt.specs.declared.stage.Asked.TheVariants.{EnablePartition, EnableVp, Start, Modify, Flush}
use Rattle.attempt.specs.declared.stage.Asked.TheVariants.{Write as Configure, Look}
use Rattle.attempt.specs.declared.stage.Behind.{Behind}
use Rattle.attempt.specs.declared.stage.Behind.TheVariants.{Input, Words, Make}
use Rattle.attempt.specs.declared.stage.Sending.{Sending}
use Rattle.attempt.specs.declared.stage.Site.{Site}
use Rattle.attempt.specs.declared.under.Under.{Under}

-- how many words the header of a call has, and those that were read
abbrev pub header_words : Call → ℕ
header_words call = (row_for call).header / 8

abbrev pub header_of : Under → List ℕ
header_of u = take (header_words u.head.call) u.header

abbrev pub part_call : Origin → Under → Asked → PartCall
part_call from u EnablePartition = parts.EnablePartition (take 2 u.header)
part_call from u EnableVp = parts.EnableVp (take 30 u.header)
part_call from u Start = parts.Start (take 30 u.header)
part_call from u (Modify length) = parts.Modify (take 2 u.header) (record { items = take length u.slice })
    (start_of from) (count_of from)
part_call from u Flush = parts.Flush (count_of from)
part_call from u (Configure value) = parts.WriteConfig value
part_call from u (Look register site) = look_call register

abbrev pub request_for : Origin → Under → Asked → Request
request_for from u asked = record {
  by = record { 0 = from.number };
  level = from.state.active;
  call =
      part_call from u asked;
}

-- the access to a hypercall's page that its mask must allow
abbrev pub access_of : Behind → Access
access_of Input = Read
access_of Words = Write
access_of Make = Write

-- what is left once the request has its reply
abbrev pub by_answer : Origin → Asked → Reply → Tree Outcome
by_answer from (Modify length) reply = Ends
    (slice_outcome from from.state [] (replied_end reply.status reply.done (count_of from)))
by_answer from (Look register site) reply = looked_by from reply
by_answer from _ reply = Ends (replied from reply)

-- what is left of a call that asks this of the partition
abbrev pub asks_for : Origin → Under → Asked → Tree Outcome
asks_for from u asked = Wants (request_for from u asked) (by_answer from asked)

-- the call has an element left, and room for all of its output at this site
pub record OutputIs (from : Origin) (site : Site) : Type 0 where
  pub below : start_of from < count_of from
  pub at : site.address ≡ output_address from.state
  pub room : site.address % 4096 / 8 + 2 * count_of from ≤ 512

-- a slice is one, and an output has room for a value
abbrev pub AskedIs : Origin → Asked → Type 0
AskedIs from (Modify length) = (length ≤ 8) × (start_of from + length ≤ count_of from)
AskedIs from (Look register site) = OutputIs from site
AskedIs from _ = Unit {0}

-- the processors from `first` on are still to be posted to, and then the call has succeeded
abbrev pub sends_from : Origin → Interrupt → (first : ℕ) → Tree Outcome
sends_from from i first =
    asks_all (interrupt_steps i.level i.vector (those_in i.processors first (from.vps - first)))
    (Ends (result_outcome from from.state statuses.SUCCESS 0))

-- the next processor, and then those behind it
abbrev pub sends_now : Origin → Sending → Tree Outcome
sends_now from s = Asks (interrupt_step s.interrupt.level s.interrupt.vector s.next)
    (λ _. sends_from from s.interrupt (s.next + 1))

-- the next processor is one of at most eight
pub record SendIs (from : Origin) (s : Sending) : Type 0 where
  pub next : s.next < from.vps
  pub few : from.vps ≤ 8
