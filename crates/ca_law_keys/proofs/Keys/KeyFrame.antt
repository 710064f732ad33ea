-- What the agreement on memory and keys reads of a world, and hears of marks. For proofs only.
use Rattle.std.proofs.Common.{◌≡◌, Bool, true, false, List, [], ◌∷◌, ◌++◌, None, refl, sym, ap, subst, subst₂, ◌∙◌, true≢false}
use Rattle.ca_law_endings.proofs.PathLemmas.{puts-append}
use Rattle.ca_law_keys.proofs.Keys.SightLemmas.{after_writes}
use Rattle.ca_law_keys.proofs.Keys.ToldLemmas.{At, Leaves}
use Rattle.ca_law_keys.specs.InForce.{AgreeOnGrants, KeysAgree}
use Rattle.ca_law_world.proofs.Sound.WorldLemmas.{IsThere}
use Rattle.ca_base.specs.Configuration.{Configuration}
use Rattle.ca_base.specs.objects.QueuePair.{QueuePair}
use Rattle.ca_law_parts.specs.Placed.{IsPlacedWorld}
use Rattle.ca_law_world.specs.Bindings.{IsBoundWorld}
use Rattle.ca_model.specs.machine.Sound.{AreLimited, IsSoundWorld}
use Rattle.ca_law_endings.proofs.Footprint.{AreOutside, AreUnheard, Frame, Kind, MarkKind, kind_of, kind_of_mark}
use Rattle.ca_keys.specs.Equal.{place_eq, slot_eq}
use Rattle.ca_keys.specs.Memory.{ByteMap, memory_after}
use Rattle.ca_keys.specs.declared.grant.Grant.{Grant}
use Rattle.ca_keys.specs.declared.verdict.Verdict.TheVariants as verdicts
use Rattle.ca_model.specs.Past.{Past, after_mark, after_marks, with_at}
use Rattle.ca_model.specs.declared.mark.Mark.{Mark}
use Rattle.ca_model.specs.declared.mark.Mark.TheVariants as marks
use Rattle.ca_model.specs.machine.Plan.{Update, Write, put_all, write_all}
use Rattle.ca_model.specs.machine.World.{World, Name, Thing, Byte_at, Region_of, Window_of, put}

abbrev pub reads : Kind → Bool
reads Kind.OfRegion = true
reads Kind.OfWindow = true
reads Kind.OfByte = true
reads k = false

abbrev pub hears : MarkKind → Bool
hears MarkKind.Answered = true
hears MarkKind.Grants = true
hears MarkKind.Revokes = true
hears MarkKind.Stores = true
hears MarkKind.RemoteWrote = true
hears MarkKind.RemoteSwapped = true
hears MarkKind.LocalWrote = true
hears MarkKind.LocalSwapped = true
hears k = false

-- a mark that is not heard leaves a past with the same grants and the same memory
unheard-at : (g : List Grant) (n : ByteMap) (m : Mark) → hears (kind_of_mark m) ≡ false → (p : Past) → At g n p → At g n (after_mark m p)
unheard-at g n (marks.Verb by verb answer) un p at = absurd (true≢false un)
unheard-at g n (marks.Granted x) un p at = absurd (true≢false un)
unheard-at g n (marks.Revoked adapter key) un p at = absurd (true≢false un)
unheard-at g n (marks.Stored place bytes) un p at = absurd (true≢false un)
unheard-at g n (marks.Remote queue domain envelope key kind address count (verdicts.Wrote bytes)) un p at = absurd (true≢false un)
unheard-at g n (marks.Remote queue domain envelope key kind address count (verdicts.Swapped found put)) un p at = absurd (true≢false un)
unheard-at g n (marks.Local queue domain key kind address count (verdicts.Wrote bytes)) un p at = absurd (true≢false un)
unheard-at g n (marks.Local queue domain key kind address count (verdicts.Swapped found put)) un p at = absurd (true≢false un)
unheard-at g n (marks.Lost target None) un p at = record { grants = at.grants; memory = at.memory }
unheard-at g n m un p at = record { grants = at.grants; memory = at.memory }

pub leaves-unheard : (g : List Grant) (n : ByteMap) (ms : List Mark) → AreUnheard hears ms → Leaves g n ms g n
leaves-unheard g n [] un = λ p at. at
leaves-unheard g n (m ∷ ms) un = λ p at. leaves-unheard g n ms un.1 (after_mark m p) (unheard-at g n m un.0 p at)

-- no change of another kind touches it, and no mark of another kind
pub keys-frame : Frame KeysAgree reads hears
keys-frame = record { put = puts; write = λ p w byte miss r. absurd (true≢false miss); mark = heard }
  where
    puts : (p : Past) (w : World) (n : Name) (x : Thing n) → reads (kind_of n) ≡ false → KeysAgree p w → KeysAgree p (put w n x)
    puts p w (Region_of s) x miss r = absurd (true≢false miss)
    puts p w (Window_of s) x miss r = absurd (true≢false miss)
    puts p w (Byte_at b) x miss r = absurd (true≢false miss)
    puts p w n x miss r = r

    heard : (p : Past) (w : World) (m : Mark) → hears (kind_of_mark m) ≡ false → KeysAgree p w → KeysAgree (after_mark m p) w
    heard p w m un r = record {
      bytes = r.bytes ∙ sym at.memory;
      keys = subst (λ g. AgreeOnGrants g w.region w.window) (sym at.grants) r.keys;
    }
      where
        at : At p.grants p.memory (after_mark m p)
        at = unheard-at p.grants p.memory m un p (record { grants = refl; memory = refl })

-- a world that comes up, and a past that agrees with it on memory and keys
pub record IsUp (c : Configuration) (past : Past) (w : World) : Type 0 where
  pub limited : AreLimited c
  pub sound : IsSoundWorld c w
  pub placed : IsPlacedWorld c w
  pub bound : IsBoundWorld w
  pub agree : KeysAgree past w

pub own-adapter : (w : World) (q : QueuePair) → IsThere w q → q.domain.adapter ≡ q.queue.adapter
own-adapter w q there = ap (λ d. d.adapter) there.domain

-- two worlds with the same regions, windows and bytes
pub record SameKeys (u v : World) : Type 0 where
  pub region : v.region ≡ u.region
  pub window : v.window ≡ u.window
  pub byte : v.byte ≡ u.byte

pub same-keys : (u : World) → SameKeys u u
same-keys u = record { region = refl; window = refl; byte = refl }

keys-put : (u v : World) (n : Name) (t : Thing n) → SameKeys u v → SameKeys (put u n t) (put v n t)
keys-put u v (Region_of s) t same = record { region = ap (λ f. with_at slot_eq f s t) same.region; window = same.window; byte = same.byte }
keys-put u v (Window_of s) t same = record { region = same.region; window = ap (λ f. with_at slot_eq f s t) same.window; byte = same.byte }
keys-put u v (Byte_at p) t same = record { region = same.region; window = same.window; byte = ap (λ f. with_at place_eq f p t) same.byte }
keys-put u v n t same = record { region = same.region; window = same.window; byte = same.byte }

pub keys-puts : (us : List Update) (u v : World) → SameKeys u v → SameKeys (put_all us u) (put_all us v)
keys-puts [] u v same = same
keys-puts (x ∷ us) u v same = keys-puts us (put u x.name x.thing) (put v x.name x.thing) (keys-put u v x.name x.thing same)

outside-put : (u v : World) (n : Name) (t : Thing n) → reads (kind_of n) ≡ false → SameKeys u v → SameKeys u (put v n t)
outside-put u v (Region_of s) t miss same = absurd (true≢false miss)
outside-put u v (Window_of s) t miss same = absurd (true≢false miss)
outside-put u v (Byte_at p) t miss same = absurd (true≢false miss)
outside-put u v n t miss same = record { region = same.region; window = same.window; byte = same.byte }

outside-puts : (us : List Update) (u v : World) → AreOutside reads us → SameKeys u v → SameKeys u (put_all us v)
outside-puts [] u v out same = same
outside-puts (x ∷ us) u v out same = outside-puts us u (put v x.name x.thing) out.1 (outside-put u v x.name x.thing out.0 same)

-- changes behind others that it does not read, and before such
pub ahead : (us cs : List Update) (w : World) → AreOutside reads us → SameKeys (put_all cs w) (put_all (us ++ cs) w)
ahead us cs w out = subst (SameKeys (put_all cs w)) (sym (puts-append us cs w)) (keys-puts cs w (put_all us w) (outside-puts us w w out (same-keys w)))

pub ahead-of : (us cs vs : List Update) (w : World) → AreOutside reads us → AreOutside reads vs → SameKeys (put_all cs w) (put_all (us ++ (cs ++ vs)) w)
ahead-of us cs vs w out last = subst (SameKeys (put_all cs w)) (sym (puts-append us (cs ++ vs) w ∙ puts-append cs vs (put_all us w)))
    (outside-puts vs (put_all cs w) (put_all cs (put_all us w)) last (keys-puts cs w (put_all us w) (outside-puts us w w out (same-keys w))))

-- writes leave regions and windows
write-byte : (ws : List Write) (v : World) → (write_all ws v).byte ≡ after_writes ws v.byte
write-byte [] v = refl
write-byte (x ∷ ws) v = write-byte ws (record v { byte = memory_after v.byte x.runs x.bytes })

write-region : (ws : List Write) (v : World) → (write_all ws v).region ≡ v.region
write-region [] v = refl
write-region (x ∷ ws) v = write-region ws (record v { byte = memory_after v.byte x.runs x.bytes })

write-window : (ws : List Write) (v : World) → (write_all ws v).window ≡ v.window
write-window [] v = refl
write-window (x ∷ ws) v = write-window ws (record v { byte = memory_after v.byte x.runs x.bytes })

-- changes after which these grants are in force, and no byte is another
pub record Ends (w : World) (cs : List Update) (h : List Grant) : Type 0 where
  pub keys : AgreeOnGrants h (put_all cs w).region (put_all cs w).window
  pub bytes : (put_all cs w).byte ≡ w.byte

-- an event that ends with such changes among others, and with marks that tell of them
pub ends-agreed : (past r : Past) (w v : World) (cs : List Update) (ws : List Write) (ms : List Mark) (h : List Grant) (n : ByteMap) → KeysAgree past w → Ends w cs h → SameKeys (put_all cs w) v
    → At past.grants past.memory r → Leaves past.grants past.memory ms h n → after_writes ws past.memory ≡ n → KeysAgree (after_marks ms r) (write_all ws v)
ends-agreed past r w v cs ws ms h n agree ends same at leaves written = record {
  bytes = write-byte ws v ∙ ap (after_writes ws) (same.byte ∙ ends.bytes ∙ agree.bytes) ∙ written ∙ sym left.memory;
  keys = subst (λ gs. AgreeOnGrants gs (write_all ws v).region (write_all ws v).window) (sym left.grants)
      (subst₂ (λ f x. AgreeOnGrants h f x) (sym (write-region ws v ∙ same.region)) (sym (write-window ws v ∙ same.window)) ends.keys);
}
  where
    left : At h n (after_marks ms r)
    left = leaves r at
