-- The text of a made script's summary. Contracts cite it.
use Rattle.std.specs.Prelude.{ℕ, List, [], ◌++◌, codes, decimal}
use Rattle.ca_script_order.specs.Summary.{Summary}

-- a number behind its name, on a line of its own, before other lines
abbrev pub line : List ℕ → ℕ → List ℕ → List ℕ
line name n lines = name ++ (decimal n ++ (codes "\n" ++ lines))

-- eight lines; the first says how many requests a made script posts
abbrev pub summary_text : Summary → List ℕ
summary_text s =
    codes "requests 800\n"
    ++ line (codes "success ") s.success
    (line (codes "failed ") s.failed
    (line (codes "sent ") s.sent
    (line (codes "lost ") s.lost
    (line (codes "atomics ") s.atomics
    (line (codes "events ") s.events
    (line (codes "sum ") s.sum []))))))
