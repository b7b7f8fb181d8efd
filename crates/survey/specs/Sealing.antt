-- What is in a sealed survey. Stands on Contents.
use Rattle.survey.specs.declared.sealed.Sealed.{Sealed}
use Rattle.survey.specs.Contents.{Contents, contents}

abbrev pub sealed_contents : Sealed → Contents
sealed_contents s = contents s.draft
