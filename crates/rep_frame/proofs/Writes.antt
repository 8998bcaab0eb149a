-- What a slice writes to the partition's configuration, by its first setting.
use Rattle.std.proofs.Common.{◌≡◌, ◌∙◌, ℕ, ◌-◌, ◌<◌, ◌≤◌, true, Option, Some, None, is_some, List, [], ◌∷◌, length, get_or, refl, ap, sym, arith}
use Rattle.vsm_base.specs.declared.places.Vtl.{Vtl}
use Rattle.vsm_base.specs.declared.status.HvStatus.{HvStatus}
use Rattle.vsm_core.specs.declared.register.CallRegister.{CallRegister}
use Rattle.vsm_core.specs.declared.register.CallRegister.TheVariants.{Kept, EndOfMessage, CodePageOffsets, VpStatus, PartitionStatus, Capabilities, PartitionConfig}
use Rattle.vsm_core.specs.declared.request.PartCall.{PartCall}
use Rattle.vsm_core.specs.RegisterCalls.{Setting, register_of, set_refusal, write_call, unless_refused, write_in}
use Rattle.rep_frame.specs.Frames.{Frame, past_of}
use Rattle.rep_frame.specs.Slices.{setting_at, slice_settings}
use Rattle.rep_frame.proofs.Settings.{IsSlice, slice-length, slice-at}

-- an empty slice writes nothing
no-write : (caller target : Vtl) (count : ℕ) (settings : List Setting) → length settings ≡ 0 → None ≡ write_in caller target count settings
no-write caller target count [] e = refl
no-write caller target count (s ∷ settings) e = absurd (omega (arith, e))

pub empty-write : (caller target : Vtl) (frame : Frame) (words : List ℕ) → IsSlice frame words → past_of frame ≤ frame.next → None ≡ write_in caller target frame.count (slice_settings frame words)
empty-write caller target frame words slice h =
    let long = slice-length frame words slice in
    no-write caller target frame.count (slice_settings frame words) (omega (arith, long, h))

abbrev asked : (caller target : Vtl) → ℕ → Setting → Option PartCall
asked caller target count s = unless_refused (set_refusal caller target count s) (write_call (register_of s.number) s.value)

by-first : (caller target : Vtl) (count : ℕ) (settings : List Setting) (s : Setting) → 0 < length settings → get_or settings 0 s ≡ s → asked caller target count s ≡ write_in caller target count settings
by-first caller target count [] s h e = absurd (omega (arith, h))
by-first caller target count (first ∷ settings) s h e = ap (asked caller target count) (sym e)

first-write : (caller target : Vtl) (frame : Frame) (words : List ℕ) → IsSlice frame words → frame.next < past_of frame → asked caller target frame.count (setting_at words 0) ≡ write_in caller target frame.count (slice_settings frame words)
first-write caller target frame words slice h =
    let below : 0 < past_of frame - frame.next = omega (arith, h) in
    by-first caller target frame.count (slice_settings frame words) (setting_at words 0) (rw (slice-length frame words slice) below) (slice-at frame words 0 (setting_at words 0) slice below)

none-refused : (refusal : Option HvStatus) (call : Option PartCall) → is_some refusal ≡ true → None ≡ unless_refused refusal call
none-refused None call e = cc
none-refused (Some status) call e = refl

-- so does a first setting that is refused
pub refused-write : (caller target : Vtl) (frame : Frame) (words : List ℕ) → IsSlice frame words → frame.next < past_of frame → is_some (set_refusal caller target frame.count (setting_at words 0)) ≡ true → None ≡ write_in caller target frame.count (slice_settings frame words)
refused-write caller target frame words slice h e =
    none-refused (set_refusal caller target frame.count (setting_at words 0)) (write_call (register_of (setting_at words 0).number) (setting_at words 0).value) e
    ∙ first-write caller target frame words slice h

none-called : (refusal : Option HvStatus) (register : CallRegister) (value : ℕ) → (register ≡ PartitionConfig → ⊥) → None ≡ unless_refused refusal (write_call (Some register) value)
none-called (Some status) register value n = refl
none-called None (Kept name) value n = refl
none-called None EndOfMessage value n = refl
none-called None CodePageOffsets value n = refl
none-called None VpStatus value n = refl
none-called None PartitionStatus value n = refl
none-called None Capabilities value n = refl
none-called None PartitionConfig value n = absurd (n refl)

-- and one that names another register
pub other-write : (caller target : Vtl) (frame : Frame) (words : List ℕ) (register : CallRegister) → IsSlice frame words → frame.next < past_of frame → register_of (setting_at words 0).number ≡ Some register → (register ≡ PartitionConfig → ⊥) → None ≡ write_in caller target frame.count (slice_settings frame words)
other-write caller target frame words register slice h is n =
    none-called (set_refusal caller target frame.count (setting_at words 0)) register (setting_at words 0).value n
    ∙ ap (λ (r : Option CallRegister). unless_refused (set_refusal caller target frame.count (setting_at words 0)) (write_call r (setting_at words 0).value)) (sym is)
    ∙ first-write caller target frame words slice h
