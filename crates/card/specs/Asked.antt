-- What is asked of a session's card: of one net its level and PC-set, of the card its depth and the length of its step list. Assumes nothing.
use Rattle.std.specs.Prelude.{cond, ℕ, ltb, length}
use Rattle.rule.specs.Level.{level, depth}
use Rattle.rule.specs.Steps.{step_list}
use Rattle.rule.specs.declared.Refusal.TheVariants.{NotReady, NoSuchNet}
use Rattle.rule.specs.Answers.{NetAnswer}
use Rattle.std.specs.Prelude.{Ok, Err}
use Rattle.word.specs.Word.{word_of}
use Rattle.rule.specs.Chain.{pc_set}
use Rattle.card.specs.declared.Session.{Session}
use Rattle.card.specs.Session.{card_of}

-- "Net question: 12 (card only), 13." "A question about one net gives its level and its PC-set word without the inserted 0"
unfoldable pub net_asked : Session → ℕ → NetAnswer
net_asked s n =
    cond s.loaded
    (cond (ltb n s.nets) (Ok (record { level = level (card_of s) n; word = word_of 64 (pc_set (card_of s) n) })) (Err NoSuchNet))
    (Err NotReady)

-- depth and number of steps, and 0 where nothing is loaded
unfoldable pub depth_asked : Session → ℕ
depth_asked s = cond s.loaded (depth (card_of s)) 0

unfoldable pub steps_asked : Session → ℕ
steps_asked s = cond s.loaded (length (step_list (card_of s))) 0
