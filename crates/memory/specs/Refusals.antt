-- The number of each refusal, and the question that got a no.
use Rattle.std.specs.Prelude.{ℕ, List, codes}
use Rattle.questions.specs.Refusals.{refusal_text}
use Rattle.memory.specs.declared.refusals.MemoryRefusal.{MemoryRefusal}
use Rattle.memory.specs.declared.refusals.MemoryRefusal.TheVariants.{OutOfRange, Spoiled, NotOpen}
use Rattle.memory.specs.declared.refusals.WorkRefusal.{WorkRefusal}
use Rattle.memory.specs.declared.refusals.WorkRefusal.TheVariants.{TooLong}

-- why a memory refuses
abbrev pub memory_number : MemoryRefusal → ℕ
memory_number OutOfRange = 31
memory_number Spoiled = 32
memory_number NotOpen = 33

-- why bytes are not made a memory
abbrev pub work_number : WorkRefusal → ℕ
work_number TooLong = 30

-- what a memory asks, as text
abbrev pub memory_question : MemoryRefusal → List ℕ
memory_question OutOfRange = codes "Is the address below the size?"
memory_question Spoiled = codes "Is the byte not spoiled?"
memory_question NotOpen = codes "Is the byte open?"

-- what is asked of bytes, as text
abbrev pub work_question : WorkRefusal → List ℕ
work_question TooLong = codes "Are there at most 4194304 bytes?"

-- a refusal of a memory as it is shown
abbrev pub memory_text : MemoryRefusal → List ℕ
memory_text refusal = refusal_text (memory_number refusal) (memory_question refusal)

-- a refusal of bytes as it is shown
abbrev pub work_text : WorkRefusal → List ℕ
work_text refusal = refusal_text (work_number refusal) (work_question refusal)
