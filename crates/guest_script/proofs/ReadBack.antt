-- A script that is printed is read again as the same script.
use Rattle.std.proofs.Common.{◌≡◌, [], Ok, refl, sym, ap, arith}
use Rattle.guest_script.specs.Grammar.{start, script}
use Rattle.guest_script.specs.Print.{printed, lines_said}
use Rattle.guest_script.specs.Programs.{nothings}
use Rattle.guest_script.specs.declared.keyword.Stage.TheVariants as stages
use Rattle.guest_script.specs.declared.script.Script.{Script}
use Rattle.guest_script.proofs.Printable.{IsPrintable}
use Rattle.guest_script.proofs.ReadBackHead.{opened, head_read, end_read}
use Rattle.guest_script.proofs.ReadBackLines.{leads_then, said_by-leads}
use Rattle.guest_script.proofs.ReadBackMemory.{masks_read, words_read}
use Rattle.guest_script.proofs.ReadBackPrograms.{programs_read}
use Rattle.guest_script.proofs.ReadBackSchedule.{schedule_read}

-- what is printed of a script that the language has is read again, as that script
pub reads_back : (s : Script) → IsPrintable s → script (printed s) ≡ Ok s
unfolding script printed lines_said
reads_back s p =
    let w = p.within in
    let few = w.turns_few in
    let each = w.programs in
    let first = opened s.limits s.started in
    let second = record first { masks = s.masks } in
    let third = record second { words = s.words } in
    let head = head_read s.limits s.started w.vps_some w.vps_few w.pages_some w.pages_few w.budget_some w.budget_few w.started_some w.started_few in
    let masks = masks_read first s.masks refl w.pages_few p.masks in
    let words = words_read second s.words refl w.pages_few p.words in
    let programs = programs_read third [] s.programs 0 (record { program = refl; schedule = refl; end = refl }) (λ vp level l k. refl) (omega arith) w.vps_few refl p.programs (ap nothings (sym each)) in
    let fourth = record third { stage = programs.stage; begun = programs.begun; programs = s.programs } in
    let schedule = schedule_read fourth s.schedule programs.open_then.schedule programs.open_then.end w.vps_few p.schedule w.entries (omega arith) in
    let fifth = record fourth { stage = schedule.stage; schedule = s.schedule } in
    let last = record fifth { stage = stages.Done } in
    let a = leads_then {mid = first} {last = second} head masks in
    let b = leads_then {mid = second} {last = third} a words in
    let c = leads_then {mid = third} {last = fourth} b programs.leads in
    let d = leads_then {mid = fourth} {last = fifth} c schedule.leads in
    said_by-leads start last 1 (lines_said s) (leads_then {mid = fifth} {last = last} d (end_read fifth schedule.end)) refl
