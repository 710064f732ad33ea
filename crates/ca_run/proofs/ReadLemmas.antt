-- What the bytes that were read say of all the bytes that the source had. For proofs only.
use Rattle.std.proofs.Common.{◌≡◌, ℕ, ◌≤◌, List, [], length, Option, None, Some, IfSome, Ok, sym, arith}
use Rattle.ca_base.specs.declared.limits.TheConstants.{MAX_SCRIPT_BYTES}
use Rattle.ca_run.specs.Run.{IsRead}
use Rattle.ca_script.specs.Script.{ScriptValue, script_of}

-- what a text that means a script is long at most
abbrev pub AreLimited : Type 0
AreLimited = (text : List ℕ) (s : ScriptValue) → script_of text ≡ Ok s → length text ≤ MAX_SCRIPT_BYTES

read-whole : (left left' : Option (List ℕ)) (bytes : List ℕ) (limit : ℕ) → length bytes ≤ limit
    → IfSome left (λ all. length bytes ≤ limit → bytes ≡ all) → IfSome left (λ _. length bytes ≤ limit → left' ≡ Some [])
    → IfSome left (λ all. (all ≡ bytes) × (left' ≡ Some []))
read-whole None left' bytes limit few all end = tt
read-whole (Some left) left' bytes limit few all end = (sym (all few), end few)

-- bytes that mean a script were all that the source had left
pub is-read : (left left' : Option (List ℕ)) (bytes : List ℕ) (s : ScriptValue) (limit : ℕ) → MAX_SCRIPT_BYTES ≤ limit → AreLimited → script_of bytes ≡ Ok s
    → IfSome left (λ all. length bytes ≤ limit → bytes ≡ all) → IfSome left (λ _. length bytes ≤ limit → left' ≡ Some [])
    → IsRead left left' s
is-read left left' bytes s limit enough limited means all end = record {
  bytes = bytes;
  means = means;
  whole = read-whole left left' bytes limit (omega (arith, limited bytes s means, enough)) all end;
}
