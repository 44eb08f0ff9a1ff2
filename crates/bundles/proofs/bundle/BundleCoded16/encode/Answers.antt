use Rattle.std.proofs.Common.{◌≡◌, List, ◌++◌, length, Some, refl, sym, ap, ◌∙◌, rules}
use Rattle.bundles.specs.Endings.{decoded_ending, encoded_ending}
use Rattle.bundles.proofs.Sixteen.{decoded_is, elements, joined, listed}
use Rattle.operations.specs.Operations.{encoded_operation}
use Rattle.operations.specs.declared.operation.Operation.{Operation}
use Rattle.operations.specs.declared.operation.Operation.TheVariants.{Nop}
use Rattle.std.specs.List.{flat_map}
use Rattle.bundles.proofs.bundle.BundleCoded16.encode.Goals as goal

pub returns-clause-value : goal.returns-clause-value
returns-clause-value c =
    let bundle = c.args.self in
    let three : 3 ≡ length bundle.slots = search rules in
    let first : 2 ≡ length c.encode.result = search rules in
    let second : 2 ≡ length c.encode-2.result = search rules in
    let third : 2 ≡ length c.encode-3.result = search rules in
    let rest : 10 ≡ length c.encode-4.result = search rules in
    joined _ _ _ _ _ _ _ _ (sym (listed 0 2 0 c.encode.result first) ∙ c.encode.ensures.value) (sym (listed 0 2 0 c.encode-2.result second) ∙ c.encode-2.ensures.value)
    (sym (listed 0 2 0 c.encode-3.result third) ∙ c.encode-3.ensures.value) (sym (listed 0 10 0 c.encode-4.result rest) ∙ c.encode-4.ensures.value)
    ∙ ap (λ (slots : List Operation). flat_map encoded_operation slots ++ encoded_ending bundle.ending) (sym (listed Nop 3 0 bundle.slots three))

pub returns-clause-back : goal.returns-clause-back
returns-clause-back c =
    let bundle = c.args.self in
    let three : 3 ≡ length bundle.slots = search rules in
    let rest : 10 ≡ length c.encode-4.result = search rules in
    let bytes = elements 0 2 0 c.encode.result ++ (elements 0 2 0 c.encode-2.result ++ (elements 0 2 0 c.encode-3.result ++ elements 0 10 0 c.encode-4.result)) in
    decoded_is bytes _ _ _ _ refl c.encode.ensures.back c.encode-2.ensures.back c.encode-3.ensures.back (ap decoded_ending (sym (listed 0 10 0 c.encode-4.result rest)) ∙ c.encode-4.ensures.back)
    ∙ ap (λ (slots : List Operation). Some (record { slots = slots; ending = bundle.ending })) (sym (listed Nop 3 0 bundle.slots three))
