-- `text::Page::put_word` meets its contract: the bytes stand in a part of the page. Assumes nothing.
use mathlib.Core.Path.{refl}
use native.Mathlib.Omega.{arith}
use Rattle.text.proofs.Texts.{put_part}
use Rattle.text.proofs.Page.put_word.Goals as goal

pub returns : goal.returns
returns c =
    let a = c.args in
    record {
      put = record { page_is = put_part a.word.now a.self.now.out.now _ a.self.now.at _ (omega arith) (omega (arith, a.self.now.whole)) c.copy_from_slice.ensures.after; end_is = refl };
      same = refl;
    }
