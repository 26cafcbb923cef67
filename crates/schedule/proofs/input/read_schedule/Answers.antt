-- What is read to the end of the first bytes is those bytes.
use Rattle.std.proofs.Common.{◌≡◌, ℕ, List, ◌++◌, take, Some, None, Option, IfSome, vec_items, subst}
use Rattle.std.specs.Option.{option_map}
use Rattle.schedule.proofs.input.read_schedule.Goals as goal

first_bytes : (n : ℕ) (o : Option (List ℕ)) (after : List ℕ) → IfSome (option_map (take n) o) (λ xs. after ≡ xs) → IfSome o (λ given. after ≡ take n given)
first_bytes n None after h = tt
first_bytes n (Some given) after h = h

pub returns : goal.returns
returns g c =
    let after = vec_items c.read_to_end.new.buf in
    let remaining = g.R.Read.remaining in
    let limited = subst (λ n. IfSome (option_map (take n) (remaining c.take.result.inner)) (λ xs. after ≡ vec_items c.new-bytes.result ++ xs)) c.take.ensures.limit c.in_ok-read_to_end.ensures.bytes in
    let from_reader = subst (λ r. IfSome (option_map (take 60001) (remaining r)) (λ xs. after ≡ vec_items c.new-bytes.result ++ xs)) c.take.ensures.inner limited in
    let alone = subst (λ l. IfSome (option_map (take 60001) (remaining c.args.reader)) (λ xs. after ≡ l ++ xs)) c.new-bytes.ensures.items from_reader in
    first_bytes 60001 (remaining c.args.reader) after alone
