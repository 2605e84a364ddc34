mod LineCounts
mod HeadThreads
mod DigitLines
mod GenLaws
mod GenBody
mod SizeLaws
