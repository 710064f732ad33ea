-- The command that a parse met, by what its getters say. For proofs only.
use Rattle.std.proofs.Common.{◌≡◌, ◌∙◌, true, false, List, [], ◌∷◌, Option, Some, None, ap, ap₂, codes, refl, sym, subst, inl, inr, ◌↔◌, Err}
use Rattle.std.specs.Option.{option_map}
use Rattle.std.specs.Str.{bytes_eq}
use Rattle.ca_trace_lex.specs.Words.{◌>>=◌, Gives}
use Rattle.ca_trace_lex.specs.declared.stop.Stop.{Stop}
use Rattle.ca_trace_lex.specs.declared.stop.Stop.TheVariants as stops
use Rattle.ca_run_command.specs.Words.{alone_with, command_in, command_line, command_met, command_named, make_with, race_with, unless_faulty}
use Rattle.ca_run_command.specs.declared.command.Command.{Command}
use Rattle.ca_run_command.specs.declared.command.WordsError.{WordsError}
use Rattle.ca_run_command.specs.declared.command.WordsError.TheVariants as errors
use Rattle.clap.proofs.OnLiterals.{clap_on_literals}
use Rattle.clap.proofs.WalkLemmas.{first_value-rows}
use Rattle.clap.specs.Words.{App, HasKind, HasMatchesOf, Kinds, Row, Text, fault_of, first_of, first_value, kind_of, is_simple, is_simple_and_free, rows_of, subcommand_name_of, subcommand_of, subcommand_rows_of}
use Rattle.clap.specs.declared.error.Error.{Error}
use Rattle.clap.specs.declared.error.kind.ErrorKind.{ErrorKind}
use Rattle.clap.specs.declared.error.kind.ErrorKind.TheVariants as kinds
use Rattle.clap.specs.declared.parser.matches.ArgMatches.{ArgMatches}
use Rattle.clap.specs.declared.parser.matches.Found.{Found}

firsts : {A B C : Type 0} (f : A → B) (g : A → C) (o : Option A) → option_map f o ≡ option_map (λ (p : B × C). p.0) (option_map (λ a. (f a, g a)) o)
firsts f g None = refl
firsts f g (Some a) = refl

name-met : (m : ArgMatches) → subcommand_name_of m ≡ option_map (λ (p : Text × List Row). p.0) (subcommand_rows_of m)
name-met m = firsts _ _ _

both : (o : Option (Text × List Row)) (name : Text) (rows : List Row) → Some name ≡ option_map (λ (p : Text × List Row). p.0) o → Some rows ≡ option_map (λ (p : Text × List Row). p.1) o → o ≡ Some (name, rows)
both None name rows named with = absurd cc
both (Some (n, r)) name rows named with = let one : name ≡ n = cc in let other : rows ≡ r = cc in ap₂ (λ (a : Text) (b : List Row). Some (a, b)) (sym one) (sym other)

-- a parse met the subcommand of this name, with these arguments
pub rows-met : (m : ArgMatches) (name : Text) (rows : List Row) → Some name ≡ subcommand_name_of m → Some rows ≡ option_map (λ (p : Text × List Row). p.1) (subcommand_rows_of m) → subcommand_rows_of m ≡ Some (name, rows)
rows-met m name rows named with = both (subcommand_rows_of m) name rows (named ∙ name-met m) with

-- the command of the name `make`
make-named : (name : Text) (rows : List Row) (text : Option Text) → bytes_eq name (codes "script") ≡ false → bytes_eq name (codes "make") ≡ true → first_of (codes "seed") rows ≡ text
    → command_named (name, rows) ≡ make_with text
make-named name rows text other same is = rw (other, same, is) refl

-- the command of the name `race`
race-named : (name : Text) (rows : List Row) (text : Option Text) → bytes_eq name (codes "script") ≡ false → bytes_eq name (codes "make") ≡ false → bytes_eq name (codes "race") ≡ true
    → first_of (codes "workers") rows ≡ text → command_named (name, rows) ≡ race_with text
race-named name rows text other neither same is = rw (other, neither, same, is) refl

-- the command of a name that is none of these
alone-named : (name : Text) (rows : List Row) (text : Option Text) → bytes_eq name (codes "script") ≡ false → bytes_eq name (codes "make") ≡ false → bytes_eq name (codes "race") ≡ false
    → first_of (codes "group") rows ≡ text → command_named (name, rows) ≡ alone_with text
alone-named name rows text other neither nor is = rw (other, neither, nor, is) refl

-- what a parse met that met `make`
pub make-met : (m : ArgMatches) (arguments : Found) (name : Text) (text : Option Text) → Some name ≡ subcommand_name_of m
    → Some (rows_of arguments) ≡ option_map (λ (p : Text × List Row). p.1) (subcommand_rows_of m) → bytes_eq name (codes "script") ≡ false → bytes_eq name (codes "make") ≡ true
    → text ≡ first_value arguments (codes "seed") → command_met m ≡ make_with text
make-met m arguments name text named with other same is = ap (λ (o : Option (Text × List Row)). o >>= command_named) (rows-met m name (rows_of arguments) named with)
    ∙ make-named name (rows_of arguments) text other same (sym (first_value-rows arguments (codes "seed")) ∙ sym is)

-- what a parse met that met `race`
pub race-met : (m : ArgMatches) (arguments : Found) (name : Text) (text : Option Text) → Some name ≡ subcommand_name_of m
    → Some (rows_of arguments) ≡ option_map (λ (p : Text × List Row). p.1) (subcommand_rows_of m) → bytes_eq name (codes "script") ≡ false → bytes_eq name (codes "make") ≡ false
    → bytes_eq name (codes "race") ≡ true → text ≡ first_value arguments (codes "workers") → command_met m ≡ race_with text
race-met m arguments name text named with other neither same is = ap (λ (o : Option (Text × List Row)). o >>= command_named) (rows-met m name (rows_of arguments) named with)
    ∙ race-named name (rows_of arguments) text other neither same (sym (first_value-rows arguments (codes "workers")) ∙ sym is)

-- what a parse met that met none of these
pub alone-met : (m : ArgMatches) (arguments : Found) (name : Text) (text : Option Text) → Some name ≡ subcommand_name_of m
    → Some (rows_of arguments) ≡ option_map (λ (p : Text × List Row). p.1) (subcommand_rows_of m) → bytes_eq name (codes "script") ≡ false → bytes_eq name (codes "make") ≡ false
    → bytes_eq name (codes "race") ≡ false → text ≡ first_value arguments (codes "group") → command_met m ≡ alone_with text
alone-met m arguments name text named with other neither nor is = ap (λ (o : Option (Text × List Row)). o >>= command_named) (rows-met m name (rows_of arguments) named with)
    ∙ alone-named name (rows_of arguments) text other neither nor (sym (first_value-rows arguments (codes "group")) ∙ sym is)

-- where an error is not want of memory there is a fault, and nothing is said
pub nothing-said : (faults : Kinds) (e : Error) (said : Option Command) → HasKind faults e → (kind_of e ≡ kinds.OutOfMemory → ⊥) → unless_faulty faults said ≡ None
nothing-said [] e said (inl memory) other = absurd (other memory)
nothing-said [] e said (inr among) other = absurd among
nothing-said (k ∷ ks) e said has other = refl

-- ---- the command line

simple : is_simple command_line ≡ true
unfolding clap_on_literals
simple = refl

free : is_simple_and_free command_line ≡ true
unfolding clap_on_literals
free = refl

-- what a parse without a fault met is the command that the words are
pub met-in : (line : App) (words : List Text) (m : ArgMatches) → line ≡ command_line → HasMatchesOf line words m → (is_simple_and_free line ≡ true → fault_of line words ≡ [])
    → command_in words ≡ command_met m
unfolding command_in
met-in line words m same matches kinds = ap₂ unless_faulty (ap (λ (a : App). fault_of a words) (sym same) ∙ kinds (ap is_simple_and_free same ∙ free))
    (ap (λ (o : Option (Text × List Row)). o >>= command_named) (ap (λ (a : App). subcommand_of a words) (sym same) ∙ sym (matches (ap is_simple same ∙ simple)).1))

-- where a parse found a fault that is not want of memory the words are no command
pub refused-in : (line : App) (words : List Text) (e : Error) (k : ErrorKind) (r : WordsError) → line ≡ command_line → (is_simple_and_free line ≡ true → HasKind (fault_of line words) e)
    → k ≡ kind_of e → ((r ≡ errors.Memory) ↔ (k ≡ kinds.OutOfMemory)) → r ≡ errors.Usage → command_in words ≡ None
unfolding command_in
refused-in line words e k r same has is memory usage = nothing-said (fault_of command_line words) e (subcommand_of command_line words >>= command_named)
    (subst (λ (a : App). HasKind (fault_of a words) e) same (has (ap is_simple_and_free same ∙ free))) other
  where
    other : kind_of e ≡ kinds.OutOfMemory → ⊥
    other out = let same : errors.Memory ≡ errors.Usage = sym (memory.1 (is ∙ out)) ∙ usage in absurd cc

-- a reader that stops outside gives nothing
pub outside : {Y : Type 0} (stop : Stop) (read : Option Y) → stop ≡ stops.Outside → Gives {Y = Y} (Err stop) read → read ≡ None
outside {Y = Y} stop read is gives = subst (λ (s : Stop). Gives {Y = Y} (Err s) read) is gives
