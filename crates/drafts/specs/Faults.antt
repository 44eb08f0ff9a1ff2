-- The number of each fault, the question that got a no, and how both are shown.
use Rattle.std.specs.Prelude.{ℕ, List, codes}
use Rattle.questions.specs.Refusals.{refusal_text}
use Rattle.drafts.specs.declared.draft.SlotFault.{SlotFault}
use Rattle.drafts.specs.declared.draft.SlotFault.TheVariants.{Lacking, Crowded}

-- its number
abbrev pub fault_number : SlotFault → ℕ
fault_number Lacking = 41
fault_number Crowded = 47

-- its question, as text
abbrev pub fault_question : SlotFault → List ℕ
fault_question Lacking = codes "Are there words enough?"
fault_question Crowded = codes "Do 64 words hold the stack after the part?"

-- how it is shown: the number, then the question
abbrev pub fault_text : SlotFault → List ℕ
fault_text fault = refusal_text (fault_number fault) (fault_question fault)
