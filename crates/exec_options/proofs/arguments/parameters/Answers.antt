use Rattle.std.proofs.Common.{ap, map, option_map, rules, [], ◌≡◌, ◌∙◌}
use Rattle.std.proofs.lemmas.Result.{IfOk-weaker}
use Rattle.exec_options.proofs.WordsLemmas.{no_texts, texts_given}
use Rattle.exec_options.proofs.arguments.parameters.Goals as goal

pub returns-in-Some : goal.returns-in-Some
returns-in-Some c = record {
  texts =
      IfOk-weaker c.vec_of.result _ _
      (λ v h. ap (map (λ s. s.now)) h ∙ texts_given _ _ _ c.texts_of.ensures (ap (option_map (λ texts. map (λ s. s.now) texts.now)) c.in-Some.is))
      c.vec_of.ensures.items;
}

pub returns-in-None : goal.returns-in-None
returns-in-None c = record {
  texts =
      let empty : map (λ s. s.now) c.new.result.items ≡ [] = search rules in
      empty ∙ no_texts _ _ c.texts_of.ensures (ap (option_map (λ texts. map (λ s. s.now) texts.now)) c.in-None.is);
}
