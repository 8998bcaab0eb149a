-- The steps of a request's entries leave the shared words those of the journal with these entries.
use Rattle.std.proofs.Common.{◌≡◌, ◌<◌, ◌≤◌, ◌+◌, ◌*◌, ◌==◌, ◌&&◌, ℕ, zero, suc, Bool, true, false, not, cond, Option, Some, None, List, [], ◌∷◌, ◌++◌, map, take, drop, length, refl, sym, ap, ◌∙◌, arith, bit_or, slice_index, slice_set, nat_le}
use Rattle.std.proofs.lemmas.Bool.Decides.{nat_tests}
use Rattle.std.proofs.lemmas.Grind.{fold-append}
use Rattle.std.proofs.lemmas.List.{take-set-le, drop-set-lt, drop-set-add, get_or-take, get_or-drop, get_or-set_other, get_or-set_same}
use Rattle.std.proofs.Math.ListN.{length-set}
use Rattle.std.proofs.Math.Seq.{take-set-lt}
use Rattle.std.specs.List.{fold, range_with_len}
use Rattle.vsm_base.specs.declared.places.Limits.{Limits}
use Rattle.vsm_base.specs.declared.places.Page.{Page}
use Rattle.vsm_base.specs.declared.places.VpIndex.{VpIndex}
use Rattle.vsm_base.specs.declared.places.Vtl.{Vtl}
use Rattle.vsm_base.specs.declared.status.HvStatus.{HvStatus}
use Rattle.vsm_base.specs.declared.status.TheConstants.HvStatus as statuses
use Rattle.vsm_core.specs.declared.journal.Entry.{Entry}
use Rattle.vsm_core.specs.declared.journal.Entry.TheVariants as entries
use Rattle.vsm_core.specs.declared.partition_state.Accepted.{Accepted}
use Rattle.vsm_core.specs.declared.partition_state.PartitionState.{PartitionState}
use Rattle.vsm_core.specs.declared.request.PartCall.{PartCall}
use Rattle.vsm_core.specs.declared.request.PartCall.TheVariants.{EnablePartition, EnableVp, Start, Modify, Flush, ReadStatus, ReadConfig, WriteConfig, Fetch}
use Rattle.vsm_core.specs.declared.request.Request.{Request}
use Rattle.vsm_core.specs.AtOnce.{IsInStep}
use Rattle.vsm_core.specs.Blocks.{ask, clear, round}
use Rattle.vsm_core.specs.Calls.{first_failed}
use Rattle.vsm_core.specs.Entries.{words_by_entry, words_by_entries}
use Rattle.vsm_core.specs.Journal.{Tables, tables_after, opening_tables, tables}
use Rattle.vsm_core.specs.Partition.{standing, named, index_of, target_of, enable_partition_checks, enable_vp_checks, start_checks}
use Rattle.vsm_core.specs.Protection.{map_flags, modify_checks, page_refusal, page_refusals, config_checks, ask_of, asks_for, asks_for_all}
use Rattle.vsm_core.specs.Reps.{acting, refusing}
use Rattle.vsm_core.specs.Served.{Service, refused, judged, enable_partition, enable_vp, start_vp, fetch, fetch_of, look, with_round, modify_some, modify, write_config, serve_call, after, block}
use Rattle.vsm_core.specs.Status.{partition_status, protects, default_mask}
use Rattle.vsm_core.specs.Targets.{level_of}
use Rattle.vsm_core.specs.Whole.{Flat, posted_by_entry, with_entries, with_posted}
use Rattle.vsm_core.specs.Words.{Holds, posted_at, memory_at, generation_at}
use Rattle.vsm_core.proofs.Checks.{none-fails}

-- the words have these masks, this generation and these posted words, and else they are as they were
record Ends (limits : Limits) (old new masks : List ℕ) (generation : ℕ) (posted : List ℕ) : Type 0 where
  long : length new ≡ length old
  of_masks : take limits.pages new ≡ masks
  of_generation : slice_index new (generation_at limits) ≡ generation
  of_posted : take (9 * limits.vps) (drop (posted_at limits) new) ≡ posted
  of_memory : drop (memory_at limits) new ≡ drop (memory_at limits) old

-- the posted words among all words
abbrev posted_in : Limits → List ℕ → List ℕ
posted_in limits words = take (9 * limits.vps) (drop (posted_at limits) words)

-- so they hold the journal that comes to these
holds-by : (limits : Limits) (old new : List ℕ) (flat : Flat) (es : List Entry) → Holds limits old flat
    → Ends limits old new (fold tables_after (tables flat.opening flat.journal) es).masks (fold tables_after (tables [] flat.journal) es).rounds (fold posted_by_entry flat.posted es) → Holds limits new (with_entries flat es)
holds-by limits old new flat es h e = record {
  long = rw e.long h.long;
  of_masks = e.of_masks ∙ sym (ap (λ (t : Tables). t.masks) (fold-append tables_after (opening_tables flat.opening) flat.journal es));
  of_generation = e.of_generation ∙ sym (ap (λ (t : Tables). t.rounds) (fold-append tables_after (opening_tables []) flat.journal es));
  of_posted = e.of_posted;
  of_memory = rw e.of_memory h.of_memory;
}

-- the pages of asks are below a count
abbrev AreBelow : ℕ → List (Page × ℕ) → Type 0
AreBelow pages [] = Unit {0}
AreBelow pages (a ∷ asks) = (a.0.0 < pages) × AreBelow pages asks

-- an ask sets one mask word
asks-words : (limits : Limits) (asks : List (Page × ℕ)) (words : List ℕ) (t : Tables) → AreBelow limits.pages asks → take limits.pages words ≡ t.masks
    → Ends limits words (words_by_entries limits words (map ask asks)) (fold tables_after t (map ask asks)).masks (slice_index words (generation_at limits)) (posted_in limits words)
asks-words limits [] words t below e = record { long = refl; of_masks = e; of_generation = refl; of_posted = refl; of_memory = refl }
asks-words limits (a ∷ asks) words t below e =
    let page : ℕ = a.0.0 in
    let set : List ℕ = slice_set words page a.1 in
    let low : page < limits.pages = below.0 in
    let masks = take-set-lt limits.pages words page a.1 low ∙ ap (λ ws. slice_set ws page a.1) e in
    let more = asks-words limits asks set (tables_after t (ask a)) below.1 masks in
    record {
      long = more.long ∙ length-set words page a.1;
      of_masks = more.of_masks;
      of_generation = more.of_generation ∙ get_or-set_other words page (generation_at limits) a.1 0 (omega (arith, low));
      of_posted = more.of_posted ∙ ap (take (9 * limits.vps)) (drop-set-lt (posted_at limits) words page a.1 (omega (arith, low)));
      of_memory = more.of_memory ∙ drop-set-lt (memory_at limits) words page a.1 (omega (arith, low));
    }

asks-rounds : (asks : List (Page × ℕ)) (t : Tables) → (fold tables_after t (map ask asks)).rounds ≡ t.rounds
asks-rounds [] t = refl
asks-rounds (a ∷ asks) t = asks-rounds asks (tables_after t (ask a))

-- clears change nothing
clears-words : (limits : Limits) (from n : ℕ) (words : List ℕ) → words_by_entries limits words (map clear (range_with_len from n)) ≡ words
clears-words limits from zero words = refl
clears-words limits from (suc n) words = clears-words limits (from + 1) n words

clears-tables : (from n : ℕ) (t : Tables) → fold tables_after t (map clear (range_with_len from n)) ≡ t
clears-tables from zero t = refl
clears-tables from (suc n) t = clears-tables (from + 1) n t

-- a round: its asks, and then the generation is its number
round-words : (limits : Limits) (vps k : ℕ) (asks : List (Page × ℕ)) (by : VpIndex) (words : List ℕ)
    → words_by_entries limits words (round vps asks k by) ≡ slice_set (words_by_entries limits words (map ask asks)) (generation_at limits) k
round-words limits vps k asks by words =
    fold-append (words_by_entry limits) words (map ask asks) _ ∙
    fold-append (words_by_entry limits) (slice_set (words_by_entries limits words (map ask asks)) (generation_at limits) k) (map clear (range_with_len 0 vps)) (entries.Report k ∷ []) ∙
    ap (λ ws. words_by_entries limits ws (entries.Report k ∷ [])) (clears-words limits 0 vps (slice_set (words_by_entries limits words (map ask asks)) (generation_at limits) k))

round-tables : (vps k : ℕ) (asks : List (Page × ℕ)) (by : VpIndex) (t : Tables)
    → fold tables_after t (round vps asks k by) ≡ tables_after (fold tables_after t (map ask asks)) (entries.Report k)
round-tables vps k asks by t =
    fold-append tables_after t (map ask asks) _ ∙
    fold-append tables_after (fold tables_after t (map ask asks)) (map clear (range_with_len 0 vps)) (entries.Report k ∷ []) ∙
    ap (λ u. tables_after u (entries.Report k)) (clears-tables 0 vps (fold tables_after t (map ask asks)))

round-rounds : (vps k : ℕ) (asks : List (Page × ℕ)) (by : VpIndex) (t : Tables) → (fold tables_after t (round vps asks k by)).rounds ≡ t.rounds + 1
round-rounds vps k asks by t = rw (round-tables vps k asks by t) (ap (λ n. n + 1) (asks-rounds asks t))

-- and nothing is posted
posted-asks : (posted : List ℕ) (asks : List (Page × ℕ)) (es : List Entry) → fold posted_by_entry posted (map ask asks ++ es) ≡ fold posted_by_entry posted es
posted-asks posted [] es = refl
posted-asks posted (a ∷ asks) es = posted-asks posted asks es

posted-clears : (posted : List ℕ) (at count : ℕ) (es : List Entry) → fold posted_by_entry posted (map clear (range_with_len at count) ++ es) ≡ fold posted_by_entry posted es
posted-clears posted at zero es = refl
posted-clears posted at (suc count) es = posted-clears posted (at + 1) count es

round-posted : (vps k : ℕ) (asks : List (Page × ℕ)) (by : VpIndex) (posted : List ℕ) → fold posted_by_entry posted (round vps asks k by) ≡ posted
round-posted vps k asks by posted = posted-asks posted asks _ ∙ posted-clears posted 0 vps (entries.Report k ∷ [])

round-ends : (limits : Limits) (vps k : ℕ) (asks : List (Page × ℕ)) (by : VpIndex) (words posted : List ℕ) (t u : Tables) → generation_at limits < length words → AreBelow limits.pages asks → take limits.pages words ≡ t.masks → k ≡ u.rounds + 1 → posted_in limits words ≡ posted
    → Ends limits words (words_by_entries limits words (round vps asks k by)) (fold tables_after t (round vps asks k by)).masks (fold tables_after u (round vps asks k by)).rounds (fold posted_by_entry posted (round vps asks k by))
round-ends limits vps k asks by words posted t u long below e next same =
    let asked : List ℕ = words_by_entries limits words (map ask asks) in
    let a = asks-words limits asks words t below e in
    rw (round-words limits vps k asks by words, round-rounds vps k asks by u, round-posted vps k asks by posted, round-tables vps k asks by t) (record {
      long = length-set asked (generation_at limits) k ∙ a.long;
      of_masks = take-set-le limits.pages asked (generation_at limits) k (omega arith) ∙ a.of_masks;
      of_generation = get_or-set_same asked (generation_at limits) k 0 (rw a.long long) ∙ next;
      of_posted = ap (take (9 * limits.vps)) (drop-set-lt (posted_at limits) asked (generation_at limits) k (omega arith)) ∙ a.of_posted ∙ same;
      of_memory = drop-set-lt (memory_at limits) asked (generation_at limits) k (omega arith) ∙ a.of_memory;
    })

-- the words and the state that a request leaves are those of the journal with its entries
record IsHeld (limits : Limits) (s : PartitionState) (o : Service) : Type 0 where
  words : (ws : List ℕ) (flat : Flat) → IsInStep limits s flat → Holds limits ws flat → Holds limits (words_by_entries limits ws o.block) (with_entries flat o.block)
  in_step : (flat : Flat) → IsInStep limits s flat → IsInStep limits o.after (with_entries flat o.block)

-- an entry with no step
abbrev IsQuiet : Entry → Type 0
IsQuiet e = ((limits : Limits) (ws : List ℕ) → words_by_entry limits ws e ≡ ws) × ((t : Tables) → tables_after t e ≡ t) × ((posted : List ℕ) → posted_by_entry posted e ≡ posted)

quiet-holds : (limits : Limits) (e : Entry) (ws : List ℕ) (flat : Flat) → IsQuiet e → Holds limits ws flat → Holds limits (words_by_entries limits ws (e ∷ [])) (with_entries flat (e ∷ []))
quiet-holds limits e ws flat quiet h =
    holds-by limits ws (words_by_entries limits ws (e ∷ [])) flat (e ∷ []) h
    (rw (quiet.0 limits ws, quiet.1 (tables flat.opening flat.journal), quiet.1 (tables [] flat.journal), quiet.2 flat.posted) (record { long = refl; of_masks = h.of_masks; of_generation = h.of_generation; of_posted = h.of_posted; of_memory = refl }))

same-rounds : (e : Entry) (flat : Flat) → ((t : Tables) → tables_after t e ≡ t) → (tables [] (flat.journal ++ e ∷ [])).rounds ≡ (tables [] flat.journal).rounds
same-rounds e flat same = ap (λ (t : Tables). t.rounds) (fold-append tables_after (opening_tables []) flat.journal (e ∷ []) ∙ same (tables [] flat.journal))

quiet-held : (limits : Limits) (s : PartitionState) (e : Entry) (o : Service) → IsQuiet e → o.block ≡ e ∷ [] → length o.after.vps ≡ length s.vps → o.after.pages ≡ s.pages → o.after.rounds ≡ s.rounds → IsHeld limits s o
quiet-held limits s e o quiet one vps pages rounds = record {
  words = λ ws flat step h. rw one (quiet-holds limits e ws flat quiet h);
  in_step = λ flat step. rw one (record { vps = vps ∙ step.vps; pages = pages ∙ step.pages; rounds = rounds ∙ step.rounds ∙ sym (same-rounds e flat quiet.1) });
}

refused-held : (limits : Limits) (s : PartitionState) (by : VpIndex) (done : ℕ) (status : HvStatus) → IsHeld limits s (refused s by done status)
refused-held limits s by done status = quiet-held limits s (entries.Refuse by status) (refused s by done status) ((λ l ws. refl), (λ t. refl), (λ p. refl)) refl refl refl refl

judged-held : (limits : Limits) (s : PartitionState) (by : VpIndex) (done : ℕ) (refusal : Option HvStatus) (fine : Service) → IsHeld limits s fine → IsHeld limits s (judged s by done refusal fine)
judged-held limits s by done None fine h = h
judged-held limits s by done (Some status) fine h = refused-held limits s by done status

look-held : (limits : Limits) (s : PartitionState) (by : VpIndex) (value : ℕ) → IsHeld limits s (look s by value)
look-held limits s by value = quiet-held limits s (entries.Look by) (look s by value) ((λ l ws. refl), (λ t. refl), (λ p. refl)) refl refl refl refl

-- a round, and one behind a configuration
with_round-held : (limits : Limits) (s : PartitionState) (by : VpIndex) (asks : List (Page × ℕ)) (status : HvStatus) (done : ℕ) → (s.pages ≡ limits.pages → AreBelow limits.pages asks) → IsHeld limits s (with_round s by [] asks status done)
with_round-held limits s by asks status done below =
    let k : ℕ = s.rounds + 1 in
    let r : List Entry = round (length s.vps) asks k by in
    record {
      words = λ ws flat step h. holds-by limits ws (words_by_entries limits ws r) flat r h (round-ends limits (length s.vps) k asks by ws flat.posted (tables flat.opening flat.journal) (tables [] flat.journal) h.long (below step.pages) h.of_masks (ap (λ n. n + 1) step.rounds) h.of_posted);
      in_step = λ flat step. record { vps = step.vps; pages = step.pages; rounds = ap (λ n. n + 1) step.rounds ∙ sym (round-rounds (length s.vps) k asks by (tables [] flat.journal)) ∙ sym (ap (λ (t : Tables). t.rounds) (fold-append tables_after (opening_tables []) flat.journal r)) };
    }

configured-held : (limits : Limits) (s : PartitionState) (by : VpIndex) (value : ℕ) (asks : List (Page × ℕ)) (status : HvStatus) (done : ℕ) → (s.pages ≡ limits.pages → AreBelow limits.pages asks) → IsHeld limits s (with_round (record s { config = value }) by (entries.Config by value ∷ []) asks status done)
configured-held limits s by value asks status done below =
    let k : ℕ = s.rounds + 1 in
    let r : List Entry = entries.Config by value ∷ round (length s.vps) asks k by in
    record {
      words = λ ws flat step h. holds-by limits ws (words_by_entries limits ws r) flat r h (round-ends limits (length s.vps) k asks by ws flat.posted (tables flat.opening flat.journal) (tables [] flat.journal) h.long (below step.pages) h.of_masks (ap (λ n. n + 1) step.rounds) h.of_posted);
      in_step = λ flat step. record { vps = step.vps; pages = step.pages; rounds = ap (λ n. n + 1) step.rounds ∙ sym (round-rounds (length s.vps) k asks by (tables [] flat.journal)) ∙ sym (ap (λ (t : Tables). t.rounds) (fold-append tables_after (opening_tables []) flat.journal r)) };
    }

-- the pages of a slice before the first that isn't there
refusal-below : (pages page : ℕ) → page_refusal pages page ≡ None → page < pages
refusal-below pages page e = by (nat_le pages page) refl e where
  by : (b : Bool) → nat_le pages page ≡ b → cond b (Some statuses.INVALID_PARAMETER) None ≡ None → page < pages
  by true is none = cc
  by false is none = grind (arith, nat_tests)

acting-below : (pages mask : ℕ) (elements : List ℕ) → AreBelow pages (asks_for mask (take (acting (page_refusals pages elements)) elements))
acting-below pages mask [] = tt
acting-below pages mask (page ∷ elements) = by (page_refusal pages page) refl (acting-below pages mask elements) where
  by : (refusal : Option HvStatus) → page_refusal pages page ≡ refusal → AreBelow pages (asks_for mask (take (acting (page_refusals pages elements)) elements)) → AreBelow pages (asks_for mask (take (acting (refusal ∷ page_refusals pages elements)) (page ∷ elements)))
  by None e more = (refusal-below pages page e, more)
  by (Some status) e more = tt

modify_some-held : (limits : Limits) (s : PartitionState) (by : VpIndex) (mask : ℕ) (pages : List ℕ) (start acted : ℕ) (refusal : Option HvStatus) → (s.pages ≡ limits.pages → AreBelow limits.pages (asks_for mask (take acted pages))) → IsHeld limits s (modify_some s by mask pages start acted refusal)
modify_some-held limits s by mask pages start acted None below = with_round-held limits s by (asks_for mask (take acted pages)) statuses.SUCCESS (start + acted) below
modify_some-held limits s by mask pages start acted (Some status) below = either (acted == 0) where
  either : (b : Bool) → IsHeld limits s (cond b (refused s by start status) (with_round s by [] (asks_for mask (take acted pages)) status (start + acted)))
  either true = refused-held limits s by start status
  either false = with_round-held limits s by (asks_for mask (take acted pages)) status (start + acted) below

-- every page is there
run-below : (count mask at n : ℕ) → at + n ≤ count → AreBelow count (map (ask_of mask) (range_with_len at n))
run-below count mask at zero le = tt
run-below count mask at (suc n) le = (omega arith, run-below count mask (at + 1) n (omega arith))

write_config-held : (limits : Limits) (s : PartitionState) (by : VpIndex) (value : ℕ) → IsHeld limits s (write_config s by value)
write_config-held limits s by value = either (not (protects s.config) && protects value) where
  alone : Service
  alone = record { block = entries.Config by value ∷ []; reply = record { status = statuses.SUCCESS; done = 1; value = 0; context = None }; after = record s { config = value } }

  either : (b : Bool) → IsHeld limits s (cond b (with_round (record s { config = value }) by (entries.Config by value ∷ []) (asks_for_all (default_mask value) s.pages) statuses.SUCCESS 1) alone)
  either true = configured-held limits s by value (asks_for_all (default_mask value) s.pages) statuses.SUCCESS 1 (λ e. rw (← e) (run-below s.pages (default_mask value) 0 s.pages (omega arith)))
  either false = quiet-held limits s (entries.Config by value) alone ((λ l ws. refl), (λ t. refl), (λ p. refl)) refl refl refl refl

-- the entry of a start posts to the processor's start word
start-words : (limits : Limits) (by vp : VpIndex) (level : Vtl) (ws : List ℕ) (flat : Flat) → vp.0 < limits.vps → Holds limits ws flat → Holds limits (words_by_entries limits ws (entries.Start by vp level ∷ [])) (with_entries flat (entries.Start by vp level ∷ []))
start-words limits by vp level ws flat low h =
    let at : ℕ = posted_at limits + vp.0 in
    let value : ℕ = bit_or (slice_index ws at) 1 in
    let same : slice_index ws at ≡ slice_index flat.posted vp.0 = sym (get_or-drop (posted_at limits) ws vp.0 0) ∙ sym (get_or-take (9 * limits.vps) (drop (posted_at limits) ws) vp.0 0 (omega arith)) ∙ ap (λ m. slice_index m vp.0) h.of_posted in
    holds-by limits ws (slice_set ws at value) flat (entries.Start by vp level ∷ []) h (record {
      long = length-set ws at value;
      of_masks = take-set-le limits.pages ws at value (omega arith) ∙ h.of_masks;
      of_generation = get_or-set_other ws at (generation_at limits) value 0 (omega arith) ∙ h.of_generation;
      of_posted =
          ap (take (9 * limits.vps)) (drop-set-add (posted_at limits) ws vp.0 value) ∙ take-set-lt (9 * limits.vps) (drop (posted_at limits) ws) vp.0 value (omega arith) ∙ ap (λ m. slice_set m vp.0 value) h.of_posted ∙
          ap (λ x. slice_set flat.posted vp.0 (bit_or x 1)) same;
      of_memory = drop-set-lt (memory_at limits) ws at value (omega arith);
    })

start-held : (limits : Limits) (s : PartitionState) (by : VpIndex) (vp : ℕ) (level : Vtl) (context : List ℕ) → vp < length s.vps → IsHeld limits s (start_vp s by vp level context)
start-held limits s by vp level context low =
    let e : Entry = entries.Start by (record { 0 = vp }) level in
    record {
      words = λ ws flat step h. start-words limits by (record { 0 = vp }) level ws flat (rw step.vps at low) h;
      in_step = λ flat step. record { vps = length-set s.vps vp _ ∙ step.vps; pages = step.pages; rounds = step.rounds ∙ sym (same-rounds e flat (λ t. refl)) };
    }

-- a start that isn't refused is of a processor that there is
start-below : (s : PartitionState) (level : Vtl) (vp : ℕ) (words context : List ℕ) → first_failed (start_checks s level vp words context) ≡ None → vp < length s.vps
start-below s level vp words context none =
    let there : nat_le (length s.vps) vp ≡ false = (none-fails (start_checks s level vp words context) none).1.0 in
    grind (arith, nat_tests)

start-judged : (limits : Limits) (s : PartitionState) (by : VpIndex) (level : Vtl) (words : List ℕ) (refusal : Option HvStatus)
    → let vp = named by.0 (index_of words) in first_failed (start_checks s level vp words (drop 2 words)) ≡ refusal
    → IsHeld limits s (judged s by 0 refusal (start_vp s by vp (level_of (target_of words)) (drop 2 words)))
start-judged limits s by level words None is =
    let vp = named by.0 (index_of words) in
    start-held limits s by vp (level_of (target_of words)) (drop 2 words) (start-below s level vp words (drop 2 words) is)
start-judged limits s by level words (Some status) is = refused-held limits s by 0 status

fetch-held : (limits : Limits) (s : PartitionState) (by : VpIndex) (start : Option Accepted) → IsHeld limits s (fetch_of s by start)
fetch-held limits s by None = refused-held limits s by 0 statuses.INVALID_VP_STATE
fetch-held limits s by (Some start) = quiet-held limits s (entries.Fetch by) (fetch s by start) ((λ l ws. refl), (λ t. refl), (λ p. refl)) refl (length-set s.vps by.0 _) refl refl

call-held : (limits : Limits) (s : PartitionState) (by : VpIndex) (level : Vtl) (call : PartCall) → IsHeld limits s (serve_call s by level call)
call-held limits s by level (EnablePartition words) =
    judged-held limits s by 0 (first_failed (enable_partition_checks s words)) (enable_partition s by) (quiet-held limits s (entries.Enable by) (enable_partition s by) ((λ l ws. refl), (λ t. refl), (λ p. refl)) refl refl refl refl)
call-held limits s by level (EnableVp words) =
    let vp = named by.0 (index_of words) in
    judged-held limits s by 0 (first_failed (enable_vp_checks s by.0 level vp words (drop 2 words))) (enable_vp s by vp (drop 2 words)) (quiet-held limits s (entries.Level by (record { 0 = vp })) (enable_vp s by vp (drop 2 words)) ((λ l ws. refl), (λ t. refl), (λ p. refl)) refl (length-set s.vps vp _) refl refl)
call-held limits s by level (Start words) = start-judged limits s by level words (first_failed (start_checks s level (named by.0 (index_of words)) words (drop 2 words))) refl
call-held limits s by level (Modify header pages start total) =
    let mask = map_flags header in
    judged-held limits s by start (first_failed (modify_checks s level header)) (modify s by mask pages.items start)
    (modify_some-held limits s by mask pages.items start (acting (page_refusals s.pages pages.items)) (refusing (page_refusals s.pages pages.items)) (λ e. rw (← e) (acting-below s.pages mask pages.items)))
call-held limits s by level (Flush total) = with_round-held limits s by [] statuses.SUCCESS total (λ e. tt)
call-held limits s by level ReadStatus = look-held limits s by (partition_status s.enabled)
call-held limits s by level ReadConfig = look-held limits s by s.config
call-held limits s by level (WriteConfig value) = judged-held limits s by 0 (first_failed (config_checks s.config value)) (write_config s by value) (write_config-held limits s by value)
call-held limits s by level Fetch = fetch-held limits s by (standing s by.0).start

pub entries-hold : (limits : Limits) (s : PartitionState) (q : Request) (ws : List ℕ) (flat : Flat) → IsInStep limits s flat → Holds limits ws flat → Holds limits (words_by_entries limits ws (block s q)) (with_entries flat (block s q))
entries-hold limits s q ws flat step h = (call-held limits s q.by q.level q.call).words ws flat step h

pub entries-in-step : (limits : Limits) (s : PartitionState) (q : Request) (flat : Flat) → IsInStep limits s flat → IsInStep limits (after s q) (with_entries flat (block s q))
entries-in-step limits s q flat step = (call-held limits s q.by q.level q.call).in_step flat step
