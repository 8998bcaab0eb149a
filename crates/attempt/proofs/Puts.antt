-- What is put out.
use Rattle.std.proofs.Common.{◌≡◌, ◌∙◌, ◌+◌, ◌*◌, ◌/◌, ◌%◌, ◌^◌, ◌<◌, ◌≤◌, ℕ, Option, Some, None, List, [], ◌∷◌, ◌++◌}
use Rattle.std.proofs.Common.{length, take, slice_set, refl, sym, ap, arith}
use Rattle.std.proofs.lemmas.List.{append-nil, take_at}
use Rattle.vsm_core.specs.Attempt.{behind_page_mask, in_access_from, left_with, looked_by}
use Rattle.vsm_core.specs.Controllers.{rings, writes}
use Rattle.vsm_core.specs.Hypercalls.{output_address, result_outcome}
use Rattle.vsm_core.specs.Outcomes.{Origin, Outcome}
use Rattle.vsm_core.specs.RegisterCalls.{start_of, value_words}
use Rattle.vsm_core.specs.Tree.{WordStep, after, asks_all}
use Rattle.vsm_base.specs.declared.places.Access.TheVariants.{Write}
use Rattle.vsm_core.specs.declared.request.Reply.{Reply}
use Rattle.vsm_base.specs.declared.places.Vtl.{Vtl}
use Rattle.vsm_core.specs.Attempt.{sets_from, sets_or_asks}
use Rattle.vsm_core.specs.RegisterCalls.{count_of, past_of, settings, write_in}
use Rattle.vsm_core.specs.Reps.{words_between}
use Rattle.vsm_core.specs.declared.request.PartCall.TheVariants.{WriteConfig}
use Rattle.rep_frame.specs.Frames.{frame_of}
use Rattle.rep_frame.specs.Slices.{slice_settings}
use Rattle.attempt.specs.declared.stage.Asked.TheVariants.{Write as Configure}
use Rattle.attempt.specs.declared.stage.Stage.TheVariants.{Depart}
use Rattle.attempt.specs.Rests.{stage_rest}
use Rattle.attempt.specs.Results.{set_outcome_of}
use Rattle.attempt.specs.declared.stage.Site.{Site}
use Rattle.attempt.specs.declared.stage.Behind.TheVariants.{Make}
use Rattle.attempt.specs.declared.stage.Inner.TheVariants.{Page}
use Rattle.attempt.specs.declared.under.Under.{Under}
use Rattle.attempt.specs.Plans.{planned}
use Rattle.attempt.specs.Rests.{inner_rest}
use Rattle.attempt.specs.Results.{result_of}

-- a value of 64 bits is its low word
low-words : (value : ℕ) → value < 2 ^ 64 → value_words value ≡ value ∷ 0 ∷ []
low-words value low =
    let first : value % 2 ^ 64 ≡ value = omega (arith, low) in
    let second : value / 2 ^ 64 ≡ 0 = omega (arith, low) in
    ap (λ x. x ∷ value / 2 ^ 64 ∷ []) first ∙ ap (λ y. value ∷ y ∷ []) second

-- the first two words were set
pub two-set : (words : List ℕ) (first second : ℕ) → 2 ≤ length words
    → take 2 (slice_set (slice_set words 0 first) 1 second) ≡ first ∷ second ∷ []
two-set [] first second long = absurd (omega (arith, long))
two-set (a ∷ []) first second long = absurd (omega (arith, long))
two-set (a ∷ b ∷ words) first second long = refl

-- twelve words go to a page, and then a vector is requested
pub twelve-put : (number page : ℕ) (words rest : List ℕ) (vector : Option ℕ) → length words ≡ 12
    → (writes page 0 (take 12 (words ++ rest)) ++ rings number vector) ++ []
    ≡ writes page 0 words ++ rings number vector
twelve-put number page words rest vector long =
    append-nil _ ∙ ap (λ w. writes page 0 w ++ rings number vector) (take_at words rest 12 long)

-- the words of a value were set
pub pair-set : (words : List ℕ) (value : ℕ) → 2 ≤ length words → value < 2 ^ 64
    → take 2 (slice_set (slice_set words 0 value) 1 0) ≡ value_words value
pair-set words value long low = two-set words value 0 long ∙ sym (low-words value low)

-- what is planned goes out in an access of its own
pub puts-value : (from : Origin) (u : Under) (site : Site) (at : ℕ) (reply : Reply)
    → site.address ≡ output_address from.state → at ≡ site.address % 4096 / 8 + 2 * start_of from
    → planned from.number u.output u.plan ≡ writes (site.address / 4096) at (value_words reply.value)
    → result_of from u ≡ result_outcome from from.state reply.status reply.done
    → in_access_from (inner_rest from u (Page (record { site = site; behind = Make }))) ≡ looked_by from reply
puts-value from u site at reply here place steps result =
    ap (λ s. in_access_from (λ generation. behind_page_mask from.state.active from Write site.address generation
    (asks_all s (left_with (result_of from u))))) steps ∙ rw (result, place, here) refl

-- no answer to a planned step says anything
pub asks-same : (steps : List WordStep) (o : Outcome) (x y : ℕ)
    → after (asks_all steps (left_with o)) x ≡ after (asks_all steps (left_with o)) y
asks-same [] o x y = refl
asks-same (step ∷ steps) o x y = refl

-- a slice asks for the partition's configuration to be written
pub sets-asked : (from : Origin) (u : Under) (target : Vtl) (slice : List ℕ) (value : ℕ)
    → write_in from.state.active target (count_of from)
    (slice_settings (frame_of (count_of from) (start_of from)) slice) ≡ Some (WriteConfig value)
    → stage_rest from u (Depart (Configure value))
    ≡ sets_from from target (settings (take (words_between 32 (start_of from) (past_of from)) slice))
sets-asked from u target slice value e =
    sym (ap (sets_or_asks from target (slice_settings (frame_of (count_of from) (start_of from)) slice)) e)

-- a slice sets registers of a level
pub sets-done : (from : Origin) (target : Vtl) (slice : List ℕ)
    → write_in from.state.active target (count_of from)
    (slice_settings (frame_of (count_of from) (start_of from)) slice) ≡ None
    → left_with (set_outcome_of from target (frame_of (count_of from) (start_of from)) slice)
    ≡ sets_from from target (settings (take (words_between 32 (start_of from) (past_of from)) slice))
sets-done from target slice e =
    sym (ap (sets_or_asks from target (slice_settings (frame_of (count_of from) (start_of from)) slice)) e)
