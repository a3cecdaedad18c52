-- The exported functions' statements spelled out once more, of any arguments, and what each contract says: whoever lets one ask more, or
-- say less,
-- has to write it here too.
use Rattle.std.specs.Prelude.{Some, slice_get}
use Rattle.std.specs.List.{list_any}
use Rattle.std.proofs.Common.{◌≡◌, true, false, List, ℕ, ◌^◌, ◌<◌, length}
use Rattle.agreement.specs.X86.Memory.{read}
use Rattle.agreement.specs.Statement.Kept.{CurrentAlong, Kept, turns}
use Rattle.agreement.specs.Statement.Machine.{RegisterBytes, Turn}
use Rattle.agreement.specs.Statement.Premises.{Premises}
use Rattle.agreement.specs.Translation.Place.{place, placing_numbered, store_after}
use Rattle.agreement.specs.Translation.Replies.{numbered, output_after, translate}
use Rattle.block.specs.AgreementInCode.{AgreesBy, AgreesNowBy}
use Rattle.entry.specs.Index.{find, insert, insert_answer, is_in_use}
use Rattle.entry.specs.History as History
use Rattle.entry.specs.declared.Entry.{Entry}
use Rattle.entry.specs.declared.Key.{Key}
use Rattle.entry.specs.declared.NativeBlock.{NativeBlock}
use Rattle.index.specs.HistoryOf as HistoryOf
use Rattle.coherence.specs.Keeping.{Codes, Operation, OnlyWrites, IsCurrent}
use Rattle.coherence.specs.Entering.{MayBeEntered}
use Rattle.coherence.specs.KeepingOf as KeepingOf
use Rattle.capi.specs.Replies.{padded, Replies, RepliesToPlacing}
use Rattle.capi.specs.Indexes.{told, RepliesToFind, RepliesToInsert}
use Rattle.capi.specs.AgreementInC.{Replied}
use Rattle.capi.specs.HistoryInC as HistoryInC
use Rattle.capi.specs.KeepingInC as KeepingInC
use Rattle.capi.specs.declared.Reply.{Reply}
use Rattle.capi.proofs.ReadInC.{agreement_in_c, agreement_of_kept_in_c}
use Rattle.capi.proofs.IndexInC.{history_in_c}
use Rattle.capi.proofs.KeptInC.{keeps_spans_in_c, found_may_be_entered_in_c}

-- 1. The theorems, of any arguments

of_any : (pc : ℕ) (rb : RegisterBytes) (ts : List Turn) → pc < 2 ^ 64 → read 8 rb 0 ≡ 0 → Premises pc rb ts → AgreesBy Replied pc rb ts
of_any = agreement_in_c

of_any_kept : (pc : ℕ) (rb : RegisterBytes) (ks : List Kept) → pc < 2 ^ 64 → read 8 rb 0 ≡ 0 → Premises pc rb (turns ks)
    → CurrentAlong pc rb ks
    → AgreesNowBy Replied pc rb ks
of_any_kept = agreement_of_kept_in_c

history_of_any : (es xs : List Entry) (happened : List History.Event) → list_any is_in_use es ≡ false
    → HistoryOf.Leads HistoryInC.Does es happened xs
    → ((k : Key) (r : Entry) → RepliesToFind xs k.satp k.pc r → r ≡ told (History.showing k (History.last happened k)))
    × History.Distinct xs
unfolding HistoryInC.HistoryInC
history_of_any es xs happened h l = let s = history_in_c es xs happened h l in (s.shows, s.distinct)

kept_of_any : (es xs : List Entry) (cs : Codes) (operations : List Operation) → list_any is_in_use es ≡ false → OnlyWrites cs operations
    → KeepingOf.Leads KeepingInC.Does es cs operations xs
    → (slot : ℕ) (e : Entry) → slice_get xs slot ≡ Some e → is_in_use e ≡ true → IsCurrent cs operations e
unfolding KeepingInC.KeepsSpansInC
kept_of_any = keeps_spans_in_c

found_of_any : (es xs : List Entry) (cs : Codes) (operations : List Operation) → list_any is_in_use es ≡ false → OnlyWrites cs operations
    → KeepingOf.Leads KeepingInC.Does es cs operations xs
    → (j : Key) (e : Entry) → RepliesToFind xs j.satp j.pc e → is_in_use e ≡ true → MayBeEntered cs operations j e
unfolding KeepingInC.FoundMayBeEnteredInC
found_of_any es xs cs operations n w l j e f u = found_may_be_entered_in_c es xs cs operations n w l j e (f, u)

-- 2. The contracts

replies_says : (start limit : ℕ) (halfwords : List ℕ) (helper16 helper_mem : ℕ) (before after : List ℕ) (r : Reply)
    → Replies start limit halfwords helper16 helper_mem before after r
    → (r ≡ padded (numbered (translate start limit halfwords helper16 helper_mem (length before))))
    × (after ≡ output_after (translate start limit halfwords helper16 helper_mem (length before)) before)
replies_says start limit halfwords helper16 helper_mem before after r h = (h.replies, h.leaves)

placing_says : (code : List ℕ) (used : ℕ) (before after : List ℕ) (r : Reply) → RepliesToPlacing code used before after r
    → (r ≡ padded (placing_numbered (place (length code) (length before) used)))
    × (after ≡ store_after (place (length code) (length before) used) code before)
placing_says code used before after r h = (h.replies, h.leaves)

find_says : (es : List Entry) (satp pc : ℕ) (r : Entry) → RepliesToFind es satp pc r → r ≡ told (find es (record { satp = satp; pc = pc }))
find_says es satp pc r h = h.tells

insert_says : (es es' : List Entry) (satp pc : ℕ) (b : NativeBlock) (r : Reply) → RepliesToInsert es es' satp pc b r
    → (r ≡ padded (insert_answer es (record { satp = satp; pc = pc }))) × (es' ≡ insert es (record { satp = satp; pc = pc }) b)
insert_says es es' satp pc b r h = (h.replies, h.leaves)
