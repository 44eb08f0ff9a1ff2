-- Which operation a text names.
use Rattle.std.specs.Prelude.{◌≡◌, ℕ, ◌<◌, List, Some, None, Option}
use Rattle.operations.specs.Text.{operation_text}
use Rattle.operations.specs.Operations.{decoded_operation}
use Rattle.operations.specs.declared.operation.Operation.{Operation}

-- two bytes mean no operation that is written so
abbrev pub NotWritten : List ℕ → Option Operation → Type 0
NotWritten text None = Unit {0}
NotWritten text (Some operation) = operation_text operation ≡ text → ⊥

-- the operation of these two bytes, if it is written so
abbrev pub NamedAt : ℕ → ℕ → List ℕ → Option Operation → Type 0
NamedAt number argument text (Some operation) = operation_text operation ≡ text
NamedAt number argument text None = NotWritten text (decoded_operation number argument)

-- the operation of this number that is written so, or none of its arguments makes one
abbrev pub NamedBy : ℕ → List ℕ → Option Operation → Type 0
NamedBy number text (Some operation) = operation_text operation ≡ text
NamedBy number text None = (argument : ℕ) → argument < 256 → NotWritten text (decoded_operation number argument)

-- the operation that is written so, or there is none
abbrev pub Named : List ℕ → Option Operation → Type 0
Named text (Some operation) = operation_text operation ≡ text
Named text None = (number argument : ℕ) → number < 51 → argument < 256 → NotWritten text (decoded_operation number argument)
